-- The grammar of files with larger limits: which refusals come of a limit.
use Rattle.std.proofs.Common.{◌≡◌, ◌⊎◌, ℕ, ◌-◌, ◌<◌, ◌≤◌, true, false, refl, sym, ap, ◌∙◌, subst, List, [], ◌∷◌, ◌++◌, length, Ok, Err, inl, inr, arith, append_assoc, length-append}
use Rattle.trick_body_symbols.specs.Expressions.{Of, names}
use Rattle.trick_body_symbols.specs.Statements.{basic, basic_body}
use Rattle.trick_body_symbols.specs.Symbols.{number_of, spelled, Token}
use Rattle.trick_body_symbols.specs.declared.symbol.Symbol.{Symbol}
use Rattle.trick_body_symbols.specs.declared.symbol.Symbol.TheVariants as the
use Rattle.trick_sdef_grammar.proofs.BodyLimits.{void_grows, int_grows, int_inside_grows}
use Rattle.trick_grammar.proofs.Exact.{exact}
use Rattle.trick_grammar.proofs.Takes.{takes_token, takes_sequence, takes_choice, takes_rule, takes_act}
use Rattle.trick_grammar.specs.Classes.{is_one_of}
use Rattle.trick_grammar.specs.Gives.{class_of}
use Rattle.trick_grammar.specs.Larger.{Leaves, Takes, Larger, same, in_sequence, in_choice, longer, in_rule, in_act}
use Rattle.trick_grammar.specs.Reading.{Reading, read}
use Rattle.trick_grammar.specs.Separated.{separated_body}
use Rattle.trick_grammar.specs.Text.{IsExact, IsRefusedAt, IsText, GoesOn, at_end, read_all}
use Rattle.trick_grammar.specs.declared.refusal.Refusal.TheVariants.{NotInProfile}
use Rattle.trick_lang.specs.SyntaxTree.{SDefine}
use Rattle.trick_sdef_classes.specs.Files.{AfterInt, does, is_member, AfterName, constructs, has_members, include_body, class_head_body, other_type, other_type_body, constructor_rest, constructor_body, int_member, int_part_of, after_name, after_name_body, named_part_of, basic_part, named_part, object, object_body, after_int, after_int_body, trick_method, int_part, int_part_body, void_method, part, part_body, class, class_body, definition, definition_body, file, file_body}
use Rattle.trick_sdef_jobs.specs.Jobs.{thread, thread_body, thread_of, phase, phase_body, phase_of, time_body, cycle_body, scheduled_class_body, other_class_body, times_body, timed_body, every_body, called_body, job, job_body}
use Rattle.trick_sdef_grammar.specs.Larger.{outside, TellsLimits}
use Rattle.trick_sdef_classes.specs.Members.{free_name_body, item_body, item_value_body, items, enum, enum_body, length_body, lengths_body, declarator_body, next_declarator, more_declarators, more_declarators_body, declarators, declarators_body, member, member_body, struct, struct_body}
use Rattle.trick_sdef_classes.proofs.Files.{file_test}
use Rattle.trick_sdef_grammar.proofs.Growing.{Growing, Grows, TakesBut, grows_larger, grows_sequence, grows_choice, grows_rule, grows_act, grows_items, grows_behind, but_takes, but_rule, but_act, but_refuse, but_optional}

abbrev Wider : {A : Type 0} → Of A → Of A → Type 1
Wider {A} g h = Larger number_of (class_of {C = Symbol}) A g h

abbrev Taken : {A : Type 0} → Of A → Type 0
Taken h = Takes number_of class_of h

-- ---- jobs

job_takes : (text : List ℕ) → TakesBut (job text)
unfolding job_body thread_body phase_body
job_takes text =
    but_rule _ _ refl (but_act _ _
    (but_optional thread_of thread _ (but_rule _ _ refl (but_refuse (the.OtherThread ∷ []) _ refl (but_takes (takes_token number_of class_of _))))
    (but_optional phase_of phase _ (but_rule _ _ refl (but_refuse (the.OtherPhase ∷ []) _ refl (but_takes (takes_token number_of class_of _))))
    (but_takes (takes_sequence number_of class_of _ _ refl (takes_token number_of class_of _))))))

job_grows : (text : List ℕ) → Grows (job text) (job text)
unfolding job_body thread_body phase_body times_body timed_body every_body time_body cycle_body scheduled_class_body other_class_body called_body
job_grows text = grows_larger (same refl)

-- ---- what begins with a token that is taken

basic_taken : Taken basic
unfolding basic_body
basic_taken = takes_rule number_of class_of _ _ refl (takes_choice number_of class_of _ _ (takes_act number_of class_of _ _ (takes_token number_of class_of _)) (takes_act number_of class_of _ _ (takes_sequence number_of class_of _ _ refl (takes_token number_of class_of _))))

other_type_taken : Taken other_type
unfolding other_type_body
other_type_taken = takes_rule number_of class_of _ _ refl (takes_choice number_of class_of _ _ (takes_act number_of class_of _ _ (takes_token number_of class_of _)) (takes_act number_of class_of _ _ (takes_sequence number_of class_of _ _ refl (takes_token number_of class_of _))))

item_taken : (text : List ℕ) → Taken (item_body text)
unfolding item_body
item_taken text = takes_act number_of class_of _ _ (takes_sequence number_of class_of _ _ refl (takes_token number_of class_of _))

next_taken : (text : List ℕ) → Taken (next_declarator text)
next_taken text = takes_act number_of class_of _ _ (takes_sequence number_of class_of _ _ refl (takes_token number_of class_of _))

member_taken : (text : List ℕ) (limit : ℕ) → Taken (member text limit)
unfolding member_body
member_taken text limit = takes_rule number_of class_of _ _ refl (takes_choice number_of class_of _ _ (takes_act number_of class_of _ _ (takes_sequence number_of class_of _ _ refl basic_taken)) (takes_act number_of class_of _ _ (takes_sequence number_of class_of _ _ refl (takes_token number_of class_of _))))

part_taken : (text : List ℕ) (limit n : ℕ) → Taken (part text limit n)
unfolding part_body
part_taken text limit n =
    takes_rule number_of class_of _ _ refl
    (takes_choice number_of class_of _ _ (takes_act number_of class_of _ _ (takes_sequence number_of class_of _ _ refl (takes_token number_of class_of _)))
    (takes_choice number_of class_of _ _ (takes_act number_of class_of _ _ (takes_sequence number_of class_of _ _ refl (takes_token number_of class_of _)))
    (takes_choice number_of class_of _ _ (takes_act number_of class_of _ _ (takes_sequence number_of class_of _ _ refl (takes_token number_of class_of _)))
    (takes_choice number_of class_of _ _ (takes_act number_of class_of _ _ (takes_sequence number_of class_of _ _ refl other_type_taken))
    (takes_act number_of class_of _ _ (takes_sequence number_of class_of _ _ refl (takes_token number_of class_of _)))))))

definition_taken : (text : List ℕ) (limit n : ℕ) → Taken (definition text limit n)
unfolding definition_body include_body enum_body struct_body class_body class_head_body object_body
definition_taken text limit n =
    takes_rule number_of class_of _ _ refl
    (takes_choice number_of class_of _ _ (takes_rule number_of class_of _ _ refl (takes_act number_of class_of _ _ (takes_sequence number_of class_of _ _ refl (takes_token number_of class_of _))))
    (takes_choice number_of class_of _ _ (takes_rule number_of class_of _ _ refl (takes_act number_of class_of _ _ (takes_sequence number_of class_of _ _ refl (takes_token number_of class_of _))))
    (takes_choice number_of class_of _ _ (takes_rule number_of class_of _ _ refl (takes_act number_of class_of _ _ (takes_sequence number_of class_of _ _ refl (takes_token number_of class_of _))))
    (takes_choice number_of class_of _ _ (takes_rule number_of class_of _ _ refl (takes_act number_of class_of _ _ (takes_sequence number_of class_of _ _ refl (takes_rule number_of class_of _ _ refl (takes_act number_of class_of _ _ (takes_sequence number_of class_of _ _ refl (takes_token number_of class_of _)))))))
    (takes_rule number_of class_of _ _ refl (takes_act number_of class_of _ _ (takes_sequence number_of class_of _ _ refl (takes_token number_of class_of _))))))))

-- ---- the limits of lists

module _ (text : List ℕ) (limit more : ℕ) (lt : limit < more) (some : 1 ≤ limit) where
  fewer : limit - 1 < more - 1
  fewer = omega (arith, lt, some)

  more_declarators_grow : Wider (more_declarators text limit) (more_declarators text more)
  unfolding more_declarators_body declarator_body lengths_body length_body free_name_body
  more_declarators_grow = in_rule (in_act (in_sequence (longer fewer (same refl) (next_taken text)) (same refl)))

  declarators_grow : Wider (declarators text limit) (declarators text more)
  unfolding declarators_body declarator_body lengths_body length_body free_name_body
  declarators_grow = in_rule (in_act (in_sequence (same refl) more_declarators_grow))

  member_grows : Wider (member text limit) (member text more)
  unfolding member_body basic_body
  member_grows = in_rule (in_choice (in_act (in_sequence (same refl) declarators_grow)) (in_act (in_sequence (same refl) declarators_grow)))

  struct_grows : Grows (struct text limit) (struct text more)
  unfolding struct_body free_name_body
  struct_grows = grows_larger (in_rule (in_act (in_sequence (same refl) (in_sequence (same refl) (in_sequence (same refl) (in_sequence (longer lt member_grows (member_taken text more)) (in_sequence (same refl) (same refl))))))))

  items_grow : Grows (items text limit) (items text more)
  unfolding separated_body item_body item_value_body
  items_grow = grows_rule _ _ _ _ (grows_act _ _ _ _ (λ v. refl) (grows_sequence _ _ _ _ (grows_larger (same refl)) (grows_rule _ _ _ _ (grows_behind the.Comma names (the.Assign ∷ []) (item_body text) (same refl) (λ e t us on. (item_taken text).takes e t us on) (limit - 1) (more - 1) fewer))))

  enum_grows : Grows (enum text limit) (enum text more)
  unfolding enum_body free_name_body
  enum_grows = grows_rule _ _ _ _ (grows_act _ _ _ _ (λ v. refl)
      (grows_sequence _ _ _ _ (grows_larger (same refl)) (grows_sequence _ _ _ _ (grows_larger (same refl)) (grows_sequence _ _ _ _ (grows_larger (same refl))
      (grows_sequence _ _ _ _ items_grow (grows_larger (in_sequence (same refl) (same refl))))))))

  constructor_grows : Grows (constructor_rest text limit) (constructor_rest text more)
  unfolding constructor_body
  constructor_grows = grows_rule _ _ _ _ (grows_act _ _ _ _ (λ v. refl)
      (grows_sequence _ _ _ _ (grows_larger (same refl)) (grows_sequence _ _ _ _ (grows_larger (same refl)) (grows_sequence _ _ _ _ (grows_larger (same refl))
      (grows_sequence _ _ _ _ (grows_items (job text) (job text) limit more lt refl (job_grows text) (job_takes text)) (grows_larger (same refl)))))))

  after_name_grows : Grows (after_name text limit) (after_name text more)
  unfolding after_name_body
  after_name_grows = grows_rule _ _ _ _ (grows_choice _ _ _ _ refl (grows_act _ _ _ _ (λ v. refl) constructor_grows) (grows_act _ _ _ _ (λ v. refl) (grows_larger declarators_grow)))

  same_named : (v : Token × AfterName) → named_part_of text limit v.0 v.1 ≡ named_part_of text more v.0 v.1
  same_named (t, constructs jobs) = refl
  same_named (t, has_members ds) = refl

  named_part_grows : Grows (named_part text limit) (named_part text more)
  named_part_grows = grows_act _ _ _ _ same_named (grows_sequence _ _ _ _ (grows_larger (same refl)) after_name_grows)

  basic_part_grows : Grows (basic_part text limit) (basic_part text more)
  unfolding other_type_body
  basic_part_grows = grows_act _ _ _ _ (λ v. refl) (grows_larger (in_sequence (same refl) declarators_grow))

  int_member_grows : Grows (int_member text limit) (int_member text more)
  unfolding lengths_body length_body
  int_member_grows = grows_act _ _ _ _ (λ v. refl) (grows_larger (in_sequence (same refl) more_declarators_grow))

  same_int : (v : Token × AfterInt) → int_part_of text limit v.0 v.1 ≡ int_part_of text more v.0 v.1
  same_int (t, does body) = refl
  same_int (t, is_member ls ds) = refl

  object_grows : Grows (object text limit) (object text more)
  unfolding object_body free_name_body
  object_grows = grows_larger (same refl)

  -- ---- the limit of nesting

  module _ (n m : ℕ) (deep : n < m) where
    after_int_grows : Grows (after_int text limit n) (after_int text more m)
    unfolding after_int_body
    after_int_grows = grows_rule _ _ _ _ (grows_choice _ _ _ _ refl (grows_act _ _ _ _ (λ v. refl) (grows_larger (int_grows text limit more lt some n m deep))) int_member_grows)

    trick_grows : Grows (trick_method text limit n) (trick_method text more m)
    trick_grows = grows_act _ _ _ _ (λ v. refl) (grows_larger (in_sequence (same refl) (in_sequence (same refl) (int_inside_grows text limit more lt some n m deep))))

    int_part_grows : Grows (int_part text limit n) (int_part text more m)
    unfolding int_part_body
    int_part_grows = grows_rule _ _ _ _ (grows_choice _ _ _ _ refl (grows_larger (same refl)) (grows_choice _ _ _ _ refl trick_grows (grows_act _ _ _ _ same_int (grows_sequence _ _ _ _ (grows_larger (same refl)) after_int_grows))))

    void_method_grows : Grows (void_method text limit n) (void_method text more m)
    void_method_grows = grows_act _ _ _ _ (λ v. refl) (grows_larger (in_sequence (same refl) (in_sequence (same refl) (void_grows text limit more lt some n m deep))))

    part_grows : Grows (part text limit n) (part text more m)
    unfolding part_body
    part_grows =
        grows_rule _ _ _ _ (grows_choice _ _ _ _ refl (grows_larger (same refl))
        (grows_choice _ _ _ _ refl void_method_grows
        (grows_choice _ _ _ _ refl (grows_act _ _ _ _ (λ v. refl) (grows_sequence _ _ _ _ (grows_larger (same refl)) int_part_grows))
        (grows_choice _ _ _ _ refl basic_part_grows named_part_grows))))

    class_grows : Grows (class text limit n) (class text more m)
    unfolding class_body class_head_body free_name_body
    class_grows = grows_rule _ _ _ _ (grows_act _ _ _ _ (λ v. refl)
        (grows_sequence _ _ _ _ (grows_larger (same refl))
        (grows_sequence _ _ _ _ (grows_items (part text limit n) (part text more m) limit more lt refl part_grows (but_takes (part_taken text more m))) (grows_larger (in_sequence (same refl) (same refl))))))

    definition_grows : Grows (definition text limit n) (definition text more m)
    unfolding definition_body include_body
    definition_grows =
        grows_rule _ _ _ _ (grows_choice _ _ _ _ refl (grows_larger (same refl))
        (grows_choice _ _ _ _ refl enum_grows (grows_choice _ _ _ _ refl struct_grows (grows_choice _ _ _ _ refl class_grows object_grows))))

    file_grows : Grows (file text limit n) (file text more m)
    unfolding file_body
    file_grows = grows_rule _ _ _ _ (grows_items (definition text limit n) (definition text more m) limit more lt refl definition_grows (but_takes (definition_taken text more m)))

-- ---- what it says of answers

-- a longer front has the next token
cut : {A : Type 0} (f us front : List A) (t : A) (more : List A) → f ++ us ≡ front ++ t ∷ more → length us ≤ length more → (w : List A) × (f ≡ front ++ t ∷ w)
cut [] us [] t more e le = absurd (omega (arith, ap length e, le))
cut [] us (b ∷ front) t more e le = absurd (omega (arith, ap length e, le, length-append front (t ∷ more)))
cut (a ∷ f) us [] t more e le = (f, cc)
cut {A} (a ∷ f) us (b ∷ front) t more e le =
    let tails : f ++ us ≡ front ++ t ∷ more = cc in
    let heads : a ≡ b = cc in
    let r = cut f us front t more tails le in (r.0, rw (heads, r.1) refl)

module _ (h : Of SDefine) (ts front : List Token) (t : Token) (more : List Token) (parts : ts ≡ front ++ t ∷ more) where
  -- a text of the grammar goes on with the token, since reading goes beyond it
  goes_on_from : (rest : List Token) → length rest ≤ length more → IsRefusedAt number_of class_of spelled h ts rest → GoesOn number_of class_of h (front ++ t ∷ [])
  goes_on_from rest le s =
      let w = cut s.front rest front t more (sym s.parts ∙ parts) le in
      let on = s.goes_on in
      (w.0 ++ on.0, on.1, subst (λ (us : List Token). IsText number_of class_of h us on.1) (ap (λ (us : List Token). us ++ on.0) w.1 ∙ append_assoc front (t ∷ w.0) on.0 ∙ sym (append_assoc front (t ∷ []) (w.0 ++ on.0))) on.3)

  goes_on : (r : Reading Token SDefine) → Leaves (length more) r → IsExact number_of class_of spelled h ts (at_end r) → GoesOn number_of class_of h (front ++ t ∷ [])
  goes_on (Ok (x, [])) le s = (more, x, subst (λ (us : List Token). IsText number_of class_of h us x) (parts ∙ sym (append_assoc front (t ∷ []) more)) s.0)
  goes_on (Ok (x, u ∷ us)) le s = goes_on_from (u ∷ us) le s
  goes_on (Err z) le s = goes_on_from z.rest le s

module _ (text : List ℕ) (limit more : ℕ) (lt : limit < more) (some : 1 ≤ limit) (n m : ℕ) (deep : n < m) where
  abbrev g : Of SDefine
  g = file text limit n

  abbrev h : Of SDefine
  h = file text more m

  exact_g : (ts : List Token) → IsExact number_of class_of spelled g ts (read_all number_of class_of g ts)
  exact_g ts = exact number_of class_of spelled (λ symbol. refl) g (file_test text limit n) refl ts

  exact_h : (ts : List Token) → IsExact number_of class_of spelled h ts (read_all number_of class_of h ts)
  exact_h ts = exact number_of class_of spelled (λ symbol. refl) h (file_test text more m) refl ts

  tells : (ts : List Token) (q r : Reading Token SDefine) → read number_of class_of [] g ts ≡ q → read number_of class_of [] h ts ≡ r → Growing q r → TellsLimits h ts (at_end q)
  tells ts (Ok (x, [])) r d e p = ap at_end (e ∙ p)
  tells ts (Ok (x, t ∷ us)) r d e p = (λ no. ap at_end (e ∙ p), λ yes. absurd cc)
  tells ts (Err z) r d e (inl (inl p)) = (λ no. ap at_end (e ∙ p.1), λ yes. absurd cc)
  tells ts (Err z) r d e (inl (inr p)) = (λ no. absurd cc, λ yes. beyond z.rest refl)
    where
      refused_at : IsRefusedAt number_of class_of spelled g ts z.rest
      refused_at = subst (λ q. IsExact number_of class_of spelled g ts (at_end q)) d (exact_g ts)

      beyond : (us : List Token) → z.rest ≡ us → (front : List Token) × (t : Token) × (after : List Token) × (z.rest ≡ t ∷ after) × (ts ≡ front ++ t ∷ after) × (GoesOn number_of class_of h (front ++ t ∷ []) ⊎ ((is_one_of number_of t.class outside ≡ true) × (read_all number_of class_of h ts ≡ Err (record { kind = NotInProfile; rest = z.rest }))))
      beyond [] is = absurd (omega (arith, p.1.1, ap length is))
      beyond (t ∷ after) is =
          let parts : ts ≡ refused_at.front ++ t ∷ after = refused_at.parts ∙ ap (λ (us : List Token). refused_at.front ++ us) is in
          (refused_at.front, t, after, is, parts, inl (goes_on h ts refused_at.front t after parts r (subst (λ (k : ℕ). Leaves k r) (omega (arith, p.1.1, ap length is)) p.1.2) (subst (λ q. IsExact number_of class_of spelled h ts (at_end q)) e (exact_h ts))))
  tells ts (Err z) r d e (inr p) = (λ no. absurd cc, λ yes. stays z.rest refl)
    where
      refused_at : IsRefusedAt number_of class_of spelled g ts z.rest
      refused_at = subst (λ q. IsExact number_of class_of spelled g ts (at_end q)) d (exact_g ts)

      stays : (us : List Token) → z.rest ≡ us → (front : List Token) × (t : Token) × (after : List Token) × (z.rest ≡ t ∷ after) × (ts ≡ front ++ t ∷ after) × (GoesOn number_of class_of h (front ++ t ∷ []) ⊎ ((is_one_of number_of t.class outside ≡ true) × (read_all number_of class_of h ts ≡ Err (record { kind = NotInProfile; rest = z.rest }))))
      stays [] is = let off : false ≡ true = rw is at p.1 in absurd cc
      stays (t ∷ after) is =
          let parts : ts ≡ refused_at.front ++ t ∷ after = refused_at.parts ∙ ap (λ (us : List Token). refused_at.front ++ us) is in
          (refused_at.front, t, after, is, parts, inr (rw is at p.1, ap at_end (e ∙ p.2)))

  pub files_tell : (ts : List Token) → TellsLimits h ts (read_all number_of class_of g ts)
  files_tell ts = tells ts (read number_of class_of [] g ts) (read number_of class_of [] h ts) refl refl ((file_grows text limit more lt some n m deep).reads [] ts)
