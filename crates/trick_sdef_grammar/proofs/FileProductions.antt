-- The parts of the grammar of files have the texts of their productions.
use Rattle.std.proofs.Common.{◌≡◌, ◌⊎◌, ℕ, zero, suc, ◌-◌, Bool, true, List, [], ◌∷◌, Option, Some, None, refl, sym, ap, ◌∙◌, inl, inr, subst, arith}
use Rattle.trick_sdef_grammar.proofs.BodyProductions.{Has, repeats_same}
use Rattle.trick_body_symbols.specs.Expressions.{Of, names, wholes, name_of}
use Rattle.trick_body_symbols.specs.Methods as methods
use Rattle.trick_body_symbols.specs.Methods.{int_body, method_body, method_of}
use Rattle.trick_body_symbols.specs.Statements.{basic, basic_body, scalar_of, scalars}
use Rattle.trick_body_symbols.specs.Symbols.{Token, number_of}
use Rattle.trick_body_symbols.specs.declared.symbol.Symbol.{Symbol}
use Rattle.trick_body_symbols.specs.declared.symbol.Symbol.TheVariants as the
use Rattle.trick_grammar.proofs.Tests.{subset_one_of}
use Rattle.trick_grammar.specs.Classes.{is_one_of}
use Rattle.trick_grammar.specs.Gives.{class_of}
use Rattle.trick_grammar.specs.Grammar.{act, one, optional, repetition, token, ◌⨾◌}
use Rattle.trick_grammar.specs.Separated.{behind_item, behind_separator, separated_body}
use Rattle.trick_grammar.specs.StartsWith.{StartsWith}
use Rattle.trick_lang.specs.SyntaxTree as tree
use Rattle.trick_lang.specs.SyntaxTree.{Declarator, Definition, EnumItem, JobLine, Members, Part}
use Rattle.trick_lang.specs.declared.scalar.Scalar.TheVariants as scalar
use Rattle.trick_sdef_classes.specs.Files as read
use Rattle.trick_sdef_classes.specs.Files.{after_int_body, after_name_body, class_body, class_head_body, constructor_body, constructs, definition_body, does, file_body, has_members, include_body, int_part_body, int_part_of, is_member, named_part_of, object_body, other_type_body, part_body}
use Rattle.trick_sdef_jobs.specs.Jobs as jobs
use Rattle.trick_sdef_jobs.specs.Jobs.{Times, called_body, cycle_body, every_body, job_body, job_of, other_class_body, phase_body, phase_of, scheduled, scheduled_class_body, span_of, thread_body, thread_of, tics_of, time_body, timed_body, times_body}
use Rattle.trick_sdef_classes.specs.Members as members
use Rattle.trick_sdef_classes.specs.Members.{declarator_body, declarator_of, declarators_body, enum_body, free_name_body, free_names, item_body, item_value_body, length_body, lengths_body, lengths_of, member_body, more_declarators_body, struct_body}
use Rattle.trick_sdef_grammar.specs.FileProductions.{FilesHaveProductions, class, declarator, enum, include, item, item_value, job, length, member, object, part, signed, struct, timed, times}

optional_map : {A : Type 0} (e : List Token) (a b : Of A)
    → ((ts : List Token) (x : A) (rest : List Token) → Has e a ts x rest → Has e b ts x rest)
    → (ts : List Token) (x : Option A) (rest : List Token) → Has e (optional a) ts x rest → Has e (optional b) ts x rest
unfolding StartsWith
optional_map e a b to ts x rest (inl (y, p, is)) = inl (y, to ts y rest p, is)
optional_map e a b to ts x rest (inr p) = inr p

-- ---- enums

value_to : (e ts : List Token) (x : _) (rest : List Token) → Has e members.item_value ts x rest
    → Has e item_value ts x rest
unfolding StartsWith item_value_body
value_to e ts x rest (v, (m1, assign, inl (w, (m2, minus, whole), made)), is) =
    ((v.0, (Some w.0, w.1)), (m1, assign, (m2, inl (w.0, minus, refl), whole)), made ∙ is)
value_to e ts x rest (v, (m1, assign, inr (w, whole, made)), is) =
    ((v.0, (None, w)), (m1, assign, (m1, inr (refl, refl), whole)), made ∙ is)

value_from : (e ts : List Token) (x : _) (rest : List Token) → Has e item_value ts x rest
    → Has e members.item_value ts x rest
unfolding StartsWith item_value_body
value_from e ts x rest (v, (m1, assign, (m2, inl (t, minus, given), whole)), is) = (
  (v.0, signed (Some t) v.1.1.number),
  (m1, assign, inl ((t, v.1.1), (m2, minus, whole), refl)),
  ap (λ s. signed s v.1.1.number) given ∙ is,
)
value_from e ts x rest (v, (m1, assign, (m2, inr (none, same), whole)), is) = (
  (v.0, signed None v.1.1.number),
  (
    m1,
    assign,
    inr (
      v.1.1,
      subst (λ us. Has e (token wholes) us v.1.1 rest) (sym same) whole,
      refl,
    ),
  ),
  ap (λ s. signed s v.1.1.number) (sym none) ∙ is,
)

module _ (text : List ℕ) where
  item_to : (e ts : List Token) (x : EnumItem) (rest : List Token) → Has e (members.item text) ts x rest
      → Has e (item text) ts x rest
  unfolding StartsWith item_body
  item_to e ts x rest (v, (mid, name, value), is) = (
    v,
    (
      mid,
      name,
      optional_map e members.item_value item_value (value_to e) mid v.1 rest value,
    ),
    is,
  )

  item_from : (e ts : List Token) (x : EnumItem) (rest : List Token) → Has e (item text) ts x rest
      → Has e (members.item text) ts x rest
  unfolding StartsWith item_body
  item_from e ts x rest (v, (mid, name, value), is) = (
    v,
    (
      mid,
      name,
      optional_map e item_value members.item_value (value_from e) mid v.1 rest value,
    ),
    is,
  )

-- the items after the first, as they are read and by their production
abbrev Behind : List ℕ → ℕ → Of (List EnumItem)
Behind text n = behind_item the.Comma names (the.Assign ∷ []) (item_body text) n

abbrev Listed : List ℕ → ℕ → Of (List EnumItem × Option Token)
Listed text n = repetition n (act (λ v. v.1) (one the.Comma ⨾ members.item text)) ⨾ optional (one the.Comma)

none_listed : (text : List ℕ) (n : ℕ) (e ts rest : List Token) → ts ≡ rest → Has e (Listed text n) ts ([], None) rest
unfolding StartsWith
none_listed text n e ts rest is = (ts, refl, inr (refl, is))

comma_listed : (text : List ℕ) (n : ℕ) (e ts : List Token) (t : Token) (mid rest : List Token)
    → Has e (one the.Comma) ts t mid → mid ≡ rest → Has e (Listed text n) ts ([], Some t) rest
unfolding StartsWith
comma_listed text n e ts t mid rest p is = (ts, refl, inl (t, subst (λ us. Has e (one the.Comma) ts t us) is p, refl))

items_to : (text : List ℕ) (n : ℕ) (e ts : List Token) (xs : List EnumItem) (rest : List Token)
    → Has e (Behind text n) ts xs rest → (o : Option Token) × Has e (Listed text n) ts (xs, o) rest
unfolding StartsWith behind_item
items_to text zero e ts xs rest (v, inl (w, (mid, comma, inl (y, p, made)), some), is) = absurd p
items_to text zero e ts xs rest (v, inl (w, (mid, comma, inr (none, same)), some), is) = (
  Some w.0,
  subst (λ ys. Has e (Listed text zero) ts (
    ys,
    Some w.0,
  ) rest) is (comma_listed text zero e ts w.0 mid rest comma same),
)
items_to text zero e ts xs rest (v, inr (none, same), is) =
    (None, subst (λ ys. Has e (Listed text zero) ts (ys, None) rest) is (none_listed text zero e ts rest same))
items_to text (suc n) e ts xs rest (v, inl (w, (mid, comma, inl (y, (next, first, more), made)), some), is) =
    let behind = items_to text n e next y.1 rest more in
    let same : y.0 ∷ y.1 ≡ xs = ap (λ o. behind_separator (Some (w.0, o))) made ∙ (ap behind_separator some ∙ is) in (
      behind.0,
      subst (λ ys. Has e (Listed text (suc n)) ts (ys, behind.0) rest) same
          (behind.1.0, (next, ((w.0, y.0), (mid, comma, first), refl), behind.1.1), behind.1.2),
    )
items_to text (suc n) e ts xs rest (v, inl (w, (mid, comma, inr (none, same)), some), is) =
    let empty : [] ≡ xs = ap (λ o. behind_separator (Some (w.0, o))) (sym none) ∙ (ap behind_separator some ∙ is) in (
      Some w.0,
      subst (λ ys. Has e (Listed text (suc n)) ts (
        ys,
        Some w.0,
      ) rest) empty (comma_listed text (suc n) e ts w.0 mid rest comma same),
    )
items_to text (suc n) e ts xs rest (v, inr (none, same), is) =
    let empty : [] ≡ xs = ap behind_separator (sym none) ∙ is in
    (None, subst (λ ys. Has e (Listed text (suc n)) ts (ys, None) rest) empty (none_listed text (suc n) e ts rest same))

-- nothing, or a comma, after the last item
end_from : (text : List ℕ) (n : ℕ) (e ts : List Token) (o : Option Token) (rest : List Token)
    → Has e (optional (one the.Comma)) ts o rest → Has e (Behind text n) ts [] rest
unfolding StartsWith behind_item
end_from text zero e ts o rest (inl (t, comma, is)) = (
  Some (t, None),
  inl ((t, None), (rest, comma, inr (refl, refl)), refl),
  refl,
)
end_from text zero e ts o rest (inr (none, same)) = (None, inr (refl, same), refl)
end_from text (suc n) e ts o rest (inl (t, comma, is)) =
    (Some (t, None), inl ((t, None), (rest, comma, inr (refl, refl)), refl), refl)
end_from text (suc n) e ts o rest (inr (none, same)) = (None, inr (refl, same), refl)

items_from : (text : List ℕ) (n : ℕ) (e ts : List Token) (xs : List EnumItem) (o : Option Token) (rest : List Token)
    → Has e (Listed text n) ts (xs, o) rest → Has e (Behind text n) ts xs rest
unfolding StartsWith behind_item
items_from text n e ts [] o rest (mid, same, p) = end_from text n e ts o rest
    (subst (λ us. Has e (optional (one the.Comma)) us o rest) (sym same) p)
items_from text zero e ts (x ∷ xs) o rest (mid, p, q) = absurd p
items_from text (suc n) e ts (x ∷ xs) o rest (mid, (next, (w, (m1, comma, first), is), more), q) = (
  Some (w.0, Some (x, xs)),
  inl (
    (w.0, Some (x, xs)),
    (
      m1,
      comma,
      inl (
        (x, xs),
        (
          next,
          subst (λ y. Has e
              (members.item text) m1 y next) is first,
          items_from text n e next xs o rest (mid, more, q),
        ),
        refl,
      ),
    ),
    refl,
  ),
  refl,
)

module _ (text : List ℕ) (n : ℕ) where
  enum_to : (e ts : List Token) (x : Definition) (rest : List Token) → Has e (members.enum text (suc n)) ts x rest
      → Has e (enum text n) ts x rest
  unfolding StartsWith enum_body separated_body free_name_body
  enum_to e ts x rest (v, (m1, word, (m2, inl p, more)), is) = absurd p
  enum_to e ts x rest (v, (m1, word, (m2, inr name, (m3, left, (m4, (w, (m5, first, others), made), ends)))), is) =
      let less : suc n - 1 ≡ n = omega arith in
      let behind = items_to text n e m5 w.1 m4 (subst (λ k. Has e (Behind text k) m5 w.1 m4) less others) in (
        (v.0, (v.1.0, (v.1.1.0, (w.0, (w.1, (behind.0, v.1.1.1.1)))))),
        (m1, word, (m2, name, (m3, left, (m5, first, (behind.1.0, behind.1.1, (m4, behind.1.2, ends)))))),
        ap (λ xs. tree.Enum (name_of text v.1.0) xs) made ∙ is,
      )

  enum_from : (e ts : List Token) (x : Definition) (rest : List Token) → Has e (enum text n) ts x rest
      → Has e (members.enum text (suc n)) ts x rest
  unfolding StartsWith enum_body separated_body free_name_body
  enum_from e ts x rest (v, (m1, word, (m2, name, (m3, left, (m5, first, (m6, more, (m4, comma, ends)))))), is) =
      let less : n ≡ suc n - 1 = omega arith in
      let others = items_from text n e m5 v.1.1.1.1.0 v.1.1.1.1.1.0 m4 (m6, more, comma) in (
        (v.0, (v.1.0, (v.1.1.0, (v.1.1.1.0 ∷ v.1.1.1.1.0, v.1.1.1.1.1.1)))),
        (
          m1,
          word,
          (
            m2,
            inr name,
            (
              m3,
              left,
              (
                m4,
                (
                  (v.1.1.1.0, v.1.1.1.1.0),
                  (
                    m5,
                    first,
                    subst (λ k. Has e
                        (Behind text k) m5 v.1.1.1.1.0 m4) less others,
                  ),
                  refl,
                ),
                ends,
              ),
            ),
          ),
        ),
        is,
      )

-- ---- members

length_to : (e ts : List Token) (x : ℕ) (rest : List Token) → Has e members.length ts x rest → Has e length ts x rest
unfolding StartsWith length_body
length_to e ts x rest (v, (m1, left, (m2, inl p, right)), is) = absurd p
length_to e ts x rest (v, (m1, left, (m2, inr number, inl p)), is) = absurd p
length_to e ts x rest (v, (m1, left, (m2, inr number, inr right)), is) = (v, (m1, left, (m2, number, right)), is)

length_from : (e ts : List Token) (x : ℕ) (rest : List Token) → Has e length ts x rest → Has e members.length ts x rest
unfolding StartsWith length_body
length_from e ts x rest (v, (m1, left, (m2, number, right)), is) = (v, (m1, left, (m2, inr number, inr right)), is)

two_to : (e ts : List Token) (x : ℕ × Option ℕ) (rest : List Token)
    → Has e (members.length ⨾ optional members.length) ts x rest → Has e (length ⨾ optional length) ts x rest
unfolding StartsWith
two_to e ts x rest (mid, first, second) = (
  mid,
  length_to e ts x.0 mid first,
  optional_map e members.length length (length_to e) mid x.1 rest second,
)

two_from : (e ts : List Token) (x : ℕ × Option ℕ) (rest : List Token) → Has e (length ⨾ optional length) ts x rest
    → Has e (members.length ⨾ optional members.length) ts x rest
unfolding StartsWith
two_from e ts x rest (mid, first, second) = (
  mid,
  length_from e ts x.0 mid first,
  optional_map e length members.length (length_from e) mid x.1 rest second,
)

module _ (text : List ℕ) where
  declarator_to : (e ts : List Token) (x : Declarator) (rest : List Token) → Has e (members.declarator text) ts x rest
      → Has e (declarator text) ts x rest
  unfolding StartsWith declarator_body free_name_body lengths_body
  declarator_to e ts x rest (v, (mid, inl p, lengths), is) = absurd p
  declarator_to e ts x rest (v, (mid, inr (inl p), lengths), is) = absurd p
  declarator_to e ts x rest (v, (mid, inr (inr name), (o, lengths, made)), is) = (
    (v.0, o),
    (
      mid,
      name,
      optional_map e (members.length ⨾ optional members.length) (length ⨾ optional length)
          (two_to e) mid o rest lengths,
    ),
    ap (declarator_of text v.0) made ∙ is,
  )

  declarator_from : (e ts : List Token) (x : Declarator) (rest : List Token) → Has e (declarator text) ts x rest
      → Has e (members.declarator text) ts x rest
  unfolding StartsWith declarator_body free_name_body lengths_body
  declarator_from e ts x rest (v, (mid, name, lengths), is) = (
    (v.0, lengths_of v.1),
    (
      mid,
      inr (inr name),
      (
        v.1,
        optional_map e (length ⨾ optional length)
            (members.length ⨾ optional members.length) (two_from e) mid v.1 rest lengths,
        refl,
      ),
    ),
    is,
  )

  next_to : (e ts : List Token) (x : Declarator) (rest : List Token) → Has e (members.next_declarator text) ts x rest
      → Has e (act (λ v. v.1) (one the.Comma ⨾ declarator text)) ts x rest
  unfolding StartsWith
  next_to e ts x rest (v, (mid, comma, p), is) = (v, (mid, comma, declarator_to e mid v.1 rest p), is)

  next_from : (e ts : List Token) (x : Declarator) (rest : List Token)
      → Has e (act (λ v. v.1) (one the.Comma ⨾ declarator text)) ts x rest
      → Has e (members.next_declarator text) ts x rest
  unfolding StartsWith
  next_from e ts x rest (v, (mid, comma, p), is) = (v, (mid, comma, declarator_from e mid v.1 rest p), is)

  -- the declarators after the first, and the end
  abbrev Rest : ℕ → Of (List Declarator × Token)
  Rest n = repetition n (act (λ v. v.1) (one the.Comma ⨾ declarator text)) ⨾ one the.Semicolon

  more_to : (n : ℕ) (e ts : List Token) (xs : List Declarator) (rest : List Token)
      → Has e (members.more_declarators text (suc n)) ts xs rest → (t : Token) × Has e (Rest n) ts (xs, t) rest
  unfolding StartsWith more_declarators_body
  more_to n e ts xs rest (v, (mid, more, ends), is) =
      let less : suc n - 1 ≡ n = omega arith in (
        v.1,
        subst (λ ys. Has e (Rest n) ts (ys, v.1) rest) is (
          mid,
          repeats_same _ _ (next_to e) n ts v.0 mid (subst
              (λ k. Has e (repetition k (members.next_declarator text)) ts v.0 mid) less more),
          ends,
        ),
      )

  more_from : (n : ℕ) (e ts : List Token) (xs : List Declarator) (t : Token) (rest : List Token)
      → Has e (Rest n) ts (xs, t) rest → Has e (members.more_declarators text (suc n)) ts xs rest
  unfolding StartsWith more_declarators_body
  more_from n e ts xs t rest (mid, more, ends) =
      let less : n ≡ suc n - 1 = omega arith in (
        (xs, t),
        (
          mid,
          subst (λ k. Has e (repetition k (members.next_declarator text)) ts xs mid) less
              (repeats_same _ _ (next_from e) n ts xs mid more),
          ends,
        ),
        refl,
      )

  -- declarator { "," declarator } ";"
  abbrev All : ℕ → Of (Declarator × (List Declarator × Token))
  All n = declarator text ⨾ Rest n

  record Some_of (n : ℕ) (e ts : List Token) (ds : List Declarator) (rest : List Token) : Type 0 where
    pub value : Declarator × (List Declarator × Token)
    pub has : Has e (All n) ts value rest
    pub same : value.0 ∷ value.1.0 ≡ ds

  all_to : (n : ℕ) (e ts : List Token) (ds : List Declarator) (rest : List Token)
      → Has e (members.declarators text (suc n)) ts ds rest → Some_of n e ts ds rest
  unfolding StartsWith declarators_body
  all_to n e ts ds rest (v, (mid, first, more), is) =
      let others = more_to n e mid v.1 rest more in
      record { value = (v.0, (v.1, others.0)); has = (mid, declarator_to e ts v.0 mid first, others.1); same = is }

  all_from : (n : ℕ) (e ts : List Token) (value : Declarator × (List Declarator × Token)) (rest : List Token)
      → Has e (All n) ts value rest → Has e (members.declarators text (suc n)) ts (value.0 ∷ value.1.0) rest
  unfolding StartsWith declarators_body
  all_from n e ts value rest (mid, first, more) = (
    (value.0, value.1.0),
    (
      mid,
      declarator_from e ts value.0 mid first,
      more_from n e mid value.1.0 value.1.1 rest more,
    ),
    refl,
  )

  member_to : (n : ℕ) (e ts : List Token) (x : Members) (rest : List Token)
      → Has e (members.member text (suc n)) ts x rest → Has e (member text n) ts x rest
  unfolding StartsWith member_body
  member_to n e ts x rest (inl (v, (mid, written, more), is)) =
      let all = all_to n e mid v.1 rest more in (
        ((v.0.0, tree.Basic v.0.1), all.value),
        (mid, inl (v.0, written, refl), all.has),
        ap (λ ds. record { written = tree.Basic v.0.1; declarators = ds }) all.same ∙ is,
      )
  member_to n e ts x rest (inr (v, (mid, written, more), is)) =
      let all = all_to n e mid v.1 rest more in (
        ((v.0.line, tree.Custom v.0.line (name_of text v.0)), all.value),
        (mid, inr (v.0, written, refl), all.has),
        ap (λ ds. record { written = tree.Custom v.0.line (name_of text v.0); declarators = ds }) all.same ∙ is,
      )

  member_from : (n : ℕ) (e ts : List Token) (x : Members) (rest : List Token) → Has e (member text n) ts x rest
      → Has e (members.member text (suc n)) ts x rest
  unfolding StartsWith member_body
  member_from n e ts x rest (v, (mid, inl (b, written, made), more), is) =
      inl (
        (b, v.1.0 ∷ v.1.1.0),
        (mid, written, all_from n e mid v.1 rest more),
        ap (λ y. record { written = y.1; declarators = v.1.0 ∷ v.1.1.0 }) made ∙ is,
      )
  member_from n e ts x rest (v, (mid, inr (t, written, made), more), is) =
      inr (
        (t, v.1.0 ∷ v.1.1.0),
        (mid, written, all_from n e mid v.1 rest more),
        ap (λ y. record { written = y.1; declarators = v.1.0 ∷ v.1.1.0 }) made ∙ is,
      )

  struct_to : (limit : ℕ) (e ts : List Token) (x : Definition) (rest : List Token)
      → Has e (members.struct text limit) ts x rest → Has e (struct text limit) ts x rest
  unfolding StartsWith struct_body free_name_body
  struct_to limit e ts x rest (v, (m1, word, (m2, inl p, more)), is) = absurd p
  struct_to limit e ts x rest (v, (m1, word, (m2, inr name, more)), is) = (v, (m1, word, (m2, name, more)), is)

  struct_from : (limit : ℕ) (e ts : List Token) (x : Definition) (rest : List Token)
      → Has e (struct text limit) ts x rest → Has e (members.struct text limit) ts x rest
  unfolding StartsWith struct_body free_name_body
  struct_from limit e ts x rest (v, (m1, word, (m2, name, more)), is) = (v, (m1, word, (m2, inr name, more)), is)

-- ---- jobs

timed_to : (e ts : List Token) (x : ℕ) (rest : List Token) → Has e jobs.timed ts x rest → Has e timed ts x rest
unfolding StartsWith timed_body time_body
timed_to e ts x rest (v, (mid, inl p, comma), is) = absurd p
timed_to e ts x rest (v, (mid, inr t, comma), is) = (v, (mid, t, comma), is)

timed_from : (e ts : List Token) (x : ℕ) (rest : List Token) → Has e timed ts x rest → Has e jobs.timed ts x rest
unfolding StartsWith timed_body time_body
timed_from e ts x rest (v, (mid, t, comma), is) = (v, (mid, inr t, comma), is)

span_to : (e ts : List Token) (x : ℕ × Option ℕ) (rest : List Token)
    → Has e (jobs.timed ⨾ optional jobs.timed) ts x rest → Has e (timed ⨾ optional timed) ts x rest
unfolding StartsWith
span_to e ts x rest (mid, first, second) = (
  mid,
  timed_to e ts x.0 mid first,
  optional_map e jobs.timed timed (timed_to e) mid x.1 rest second,
)

span_from : (e ts : List Token) (x : ℕ × Option ℕ) (rest : List Token) → Has e (timed ⨾ optional timed) ts x rest
    → Has e (jobs.timed ⨾ optional jobs.timed) ts x rest
unfolding StartsWith
span_from e ts x rest (mid, first, second) = (
  mid,
  timed_from e ts x.0 mid first,
  optional_map e timed jobs.timed (timed_from e) mid x.1 rest second,
)

times_to : (e ts : List Token) (x : Times) (rest : List Token) → Has e jobs.times ts x rest → Has e times ts x rest
unfolding StartsWith times_body other_class_body scheduled_class_body every_body cycle_body
times_to e ts x rest (inl (t, inl p, is)) = absurd p
times_to e ts x rest (inl (t, inr c, is)) = inl (t, c, is)
times_to e ts x rest (inr (v, (m1, (w, (k, inl p, comma), tics), more), is)) = absurd p
times_to e ts x rest (inr (v, (m1, (w, (k, inr (inl p), comma), tics), more), is)) = absurd p
times_to e ts x rest (inr (v, (m1, (w, (k, inr (inr cycle), comma), tics), (m2, span, inl p)), is)) = absurd p
times_to e ts x rest (inr (v, (m1, (w, (k, inr (inr cycle), comma), tics), (m2, (o, span, spans), inr word)), is)) =
    inr (
      (w.0, (w.1, (o, v.1.1))),
      (
        k,
        cycle,
        (
          m1,
          comma,
          (
            m2,
            optional_map e (jobs.timed ⨾ optional jobs.timed)
                (timed ⨾ optional timed) (span_to e) m1 o m2 span,
            word,
          ),
        ),
      ),
      ap (λ c. scheduled c (span_of o)) tics ∙ (ap (scheduled v.0) spans ∙ is),
    )

times_from : (e ts : List Token) (x : Times) (rest : List Token) → Has e times ts x rest → Has e jobs.times ts x rest
unfolding StartsWith times_body other_class_body scheduled_class_body every_body cycle_body
times_from e ts x rest (inl (t, c, is)) = inl (t, inr c, is)
times_from e ts x rest (inr (v, (k, cycle, (m1, comma, (m2, span, word))), is)) =
    inr (
      (tics_of v.0, (span_of v.1.1.0, v.1.1.1)),
      (
        m1,
        ((v.0, v.1.0), (k, inr (inr cycle), comma), refl),
        (
          m2,
          (
            v.1.1.0,
            optional_map e (timed ⨾ optional timed) (jobs.timed ⨾ optional jobs.timed)
                (span_from e) m1 v.1.1.0 m2 span,
            refl,
          ),
          inr word,
        ),
      ),
      is,
    )

thread_to : (e ts : List Token) (x : Token) (rest : List Token) → Has e jobs.thread ts x rest
    → Has e (one the.Thread) ts x rest
unfolding StartsWith thread_body
thread_to e ts x rest (inl p) = absurd p
thread_to e ts x rest (inr p) = p

phase_to : (e ts : List Token) (x : Token) (rest : List Token) → Has e jobs.phase ts x rest
    → Has e (one the.Phase) ts x rest
unfolding StartsWith phase_body
phase_to e ts x rest (inl p) = absurd p
phase_to e ts x rest (inr p) = p

thread_from : (e ts : List Token) (x : Token) (rest : List Token) → Has e (one the.Thread) ts x rest
    → Has e jobs.thread ts x rest
unfolding StartsWith thread_body
thread_from e ts x rest p = inr p

phase_from : (e ts : List Token) (x : Token) (rest : List Token) → Has e (one the.Phase) ts x rest
    → Has e jobs.phase ts x rest
unfolding StartsWith phase_body
phase_from e ts x rest p = inr p

job_to : (text : List ℕ) (e ts : List Token) (x : JobLine) (rest : List Token) → Has e (jobs.job text) ts x rest
    → Has e (job text) ts x rest
unfolding StartsWith job_body called_body
job_to text e ts x rest (
  v,
  (
    m1,
    (thread, on, threads),
    (
      m2,
      (phase, in_phase, phases),
      (
        m3,
        left,
        (
          m4,
          when,
          (
            m5,
            right,
            (w, called, calls),
          ),
        ),
      ),
    ),
  ),
  is,
) = (
  (thread, (phase, (v.1.1.0, (v.1.1.1.0, (v.1.1.1.1.0, w))))),
  (
    m1,
    optional_map e jobs.thread (one the.Thread) (thread_to e) ts thread m1 on,
    (
      m2,
      optional_map e jobs.phase (one the.Phase) (phase_to e) m1 phase m2 in_phase,
      (m3, left, (m4, when, (m5, right, called))),
    ),
  ),
  ap (λ t. job_of text t (phase_of phase) v.1.1.1.0 w.0) threads
      ∙ (ap (λ p. job_of text v.0 p v.1.1.1.0 w.0) phases ∙ (ap (λ m. job_of text v.0 v.1.0 v.1.1.1.0 m) calls ∙ is)),
)

job_from : (text : List ℕ) (e ts : List Token) (x : JobLine) (rest : List Token) → Has e (job text) ts x rest
    → Has e (jobs.job text) ts x rest
unfolding StartsWith job_body called_body
job_from text e ts x rest (v, (m1, on, (m2, in_phase, (m3, left, (m4, when, (m5, right, called))))), is) = (
  (thread_of v.0, (phase_of v.1.0, (v.1.1.0, (v.1.1.1.0, (v.1.1.1.1.0, v.1.1.1.1.1.0))))),
  (
    m1,
    (v.0, optional_map e (one the.Thread) jobs.thread (thread_from e) ts v.0 m1 on, refl),
    (
      m2,
      (v.1.0, optional_map e (one the.Phase) jobs.phase (phase_from e) m1 v.1.0 m2 in_phase, refl),
      (m3, left, (m4, when, (m5, right, (v.1.1.1.1.1, called, refl)))),
    ),
  ),
  is,
)

-- ---- files

include_to : (e ts : List Token) (x : Definition) (rest : List Token) → Has e read.include ts x rest
    → Has e include ts x rest
unfolding StartsWith include_body
include_to e ts x rest (v, (m1, hash, (m2, word, inl p)), is) = absurd p
include_to e ts x rest (v, (m1, hash, (m2, word, inr file)), is) = (v, (m1, hash, (m2, word, file)), is)

include_from : (e ts : List Token) (x : Definition) (rest : List Token) → Has e include ts x rest
    → Has e read.include ts x rest
unfolding StartsWith include_body
include_from e ts x rest (v, (m1, hash, (m2, word, file)), is) = (v, (m1, hash, (m2, word, inr file)), is)

object_to : (text : List ℕ) (limit : ℕ) (e ts : List Token) (x : Definition) (rest : List Token)
    → Has e (read.object text limit) ts x rest → Has e (object text) ts x rest
unfolding StartsWith object_body free_name_body
object_to text limit e ts x rest (v, (m1, type, (m2, inl p, semi)), is) = absurd p
object_to text limit e ts x rest (v, (m1, type, (m2, inr name, semi)), is) = (v, (m1, type, (m2, name, semi)), is)

object_from : (text : List ℕ) (limit : ℕ) (e ts : List Token) (x : Definition) (rest : List Token)
    → Has e (object text) ts x rest → Has e (read.object text limit) ts x rest
unfolding StartsWith object_body free_name_body
object_from text limit e ts x rest (v, (m1, type, (m2, name, semi)), is) = (v, (m1, type, (m2, inr name, semi)), is)

class_to : (text : List ℕ) (limit n : ℕ) (e ts : List Token) (x : Definition) (rest : List Token)
    → Has e (read.class text limit n) ts x rest → Has e (class text limit n) ts x rest
unfolding StartsWith class_body class_head_body free_name_body
class_to text limit n e ts x rest (v, (m1, (h, (a1, word, (a2, inl p, head)), name), more), is) = absurd p
class_to text limit n e ts x rest (
  v,
  (
    m1,
    (
      h,
      (
        a1,
        word,
        (
          a2,
          inr own,
          (
            a3,
            colon,
            (
              a4,
              open_to,
              (
                a5,
                trick,
                (
                  a6,
                  colons,
                  (a7, object, left),
                ),
              ),
            ),
          ),
        ),
      ),
      name,
    ),
    more,
  ),
  is,
) = (
  (h.0, (h.1.0, (h.1.1.0, (h.1.1.1.0, (h.1.1.1.1.0, (h.1.1.1.1.1.0, (h.1.1.1.1.1.1.0, (h.1.1.1.1.1.1.1, v.1)))))))),
  (a1, word, (a2, own, (a3, colon, (a4, open_to, (a5, trick, (a6, colons, (a7, object, (m1, left, more)))))))),
  ap (λ t. tree.ClassOf (name_of text t) v.1.0) name ∙ is,
)

class_from : (text : List ℕ) (limit n : ℕ) (e ts : List Token) (x : Definition) (rest : List Token)
    → Has e (class text limit n) ts x rest → Has e (read.class text limit n) ts x rest
unfolding StartsWith class_body class_head_body free_name_body
class_from text limit n e ts x rest (
  v,
  (
    a1,
    word,
    (
      a2,
      own,
      (
        a3,
        colon,
        (
          a4,
          open_to,
          (
            a5,
            trick,
            (
              a6,
              colons,
              (
                a7,
                object,
                (m1, left, more),
              ),
            ),
          ),
        ),
      ),
    ),
  ),
  is,
) = (
  (v.1.0, v.1.1.1.1.1.1.1.1),
  (
    m1,
    (
      (
        v.0,
        (
          v.1.0,
          (
            v.1.1.0,
            (
              v.1.1.1.0,
              (
                v.1.1.1.1.0,
                (
                  v.1.1.1.1.1.0,
                  (
                    v.1.1.1.1.1.1.0,
                    v.1.1.1.1.1.1.1.0,
                  ),
                ),
              ),
            ),
          ),
        ),
      ),
      (
        a1,
        word,
        (
          a2,
          inr own,
          (
            a3,
            colon,
            (
              a4,
              open_to,
              (
                a5,
                trick,
                (
                  a6,
                  colons,
                  (
                    a7,
                    object,
                    left,
                  ),
                ),
              ),
            ),
          ),
        ),
      ),
      refl,
    ),
    more,
  ),
  is,
)

-- ---- parts of a class

int_scalar : (c : Symbol) → is_one_of number_of c (the.Int ∷ []) ≡ true → scalar_of c ≡ scalar.Int
int_scalar the.Int h = refl
int_scalar c h = absurd cc

-- a name is `trick`, or free
split_name : (c : Symbol) → is_one_of number_of c names ≡ true
    → (is_one_of number_of c (the.LowerTrick ∷ []) ≡ true) ⊎ (is_one_of number_of c free_names ≡ true)
split_name the.LowerTrick h = inl refl
split_name the.Name h = inr refl
split_name the.UpperTrick h = inr refl
split_name the.SimObject h = inr refl
split_name the.Thread h = inr refl
split_name the.OtherThread h = inr refl
split_name the.Phase h = inr refl
split_name the.OtherPhase h = inr refl
split_name c h = absurd cc

abbrev other_scalars : List Symbol
other_scalars = the.Bool ∷ the.Char ∷ the.Short ∷ the.Long ∷ []

-- a type of one keyword is `int`, or another
split_scalar : (c : Symbol) → is_one_of number_of c scalars ≡ true
    → (is_one_of number_of c (the.Int ∷ []) ≡ true) ⊎ (is_one_of number_of c other_scalars ≡ true)
split_scalar the.Int h = inl refl
split_scalar the.Bool h = inr refl
split_scalar the.Char h = inr refl
split_scalar the.Short h = inr refl
split_scalar the.Long h = inr refl
split_scalar c h = absurd cc

module _ (text : List ℕ) (limit n : ℕ) where
  trick_to : (e ts : List Token) (t : Token) (mid : List Token) → Has e (one the.LowerTrick) ts t mid
      → Has e (token names) ts t mid
  unfolding StartsWith
  trick_to e ts t mid p = (p.0, subset_one_of number_of (the.LowerTrick ∷ []) names (class_of t) refl p.1)

  free_to : (e ts : List Token) (t : Token) (mid : List Token) → Has e (token free_names) ts t mid
      → Has e (token names) ts t mid
  unfolding StartsWith
  free_to e ts t mid p = (p.0, subset_one_of number_of free_names names (class_of t) refl p.1)

  int_type : (e ts : List Token) (t : Token) (mid : List Token) → Has e (one the.Int) ts t mid
      → Has e basic ts (t.line, scalar.Int) mid
  unfolding StartsWith basic_body
  int_type e ts t mid p =
      inl (
        t,
        (p.0, subset_one_of number_of (the.Int ∷ []) scalars (class_of t) refl p.1),
        ap (λ s. (t.line, s)) (int_scalar (class_of t) p.1),
      )

  other_type : (e ts : List Token) (s : _) (mid : List Token) → Has e read.other_type ts s mid
      → (line : ℕ) × Has e basic ts (line, s) mid
  unfolding StartsWith basic_body other_type_body
  other_type e ts s mid (inl (t, p, is)) = (
    t.line,
    inl (
      t,
      (p.0, subset_one_of number_of other_scalars scalars (class_of t) refl p.1),
      ap (λ z. (t.line, z)) is,
    ),
  )
  other_type e ts s mid (inr (w, p, is)) = (w.0.line, inr (w, p, ap (λ z. (w.0.line, z)) is))

  -- the members of a type of keywords
  basic_members : (e ts : List Token) (line : ℕ) (s : _) (mid : List Token) (ds : List Declarator) (rest : List Token)
      → Has e basic ts (line, s) mid → Has e (members.declarators text limit) mid ds rest
      → Has e (members.member text limit) ts (members.members_of text limit (tree.Basic s) ds) rest
  unfolding StartsWith member_body
  basic_members e ts line s mid ds rest p q = inl (((line, s), ds), (mid, p, q), refl)

  int_part_to : (e ts : List Token) (int : Token) (m1 : List Token) (x : Part) (rest : List Token)
      → Has e (one the.Int) ts int m1
      → Has e (read.int_part text limit n) m1 x rest → Has e (part text limit n) ts x rest
  unfolding StartsWith int_part_body after_int_body declarators_body declarator_body method_body int_body free_name_body
  int_part_to e ts int m1 x rest word (inl p) = absurd p
  int_part_to e ts int m1 x rest word (inr (inl (w, (m2, name, (m3, left, inside)), is))) =
      inr (inr (inl (
        method_of text limit w.0 w.1.1,
        inr (
          (int, (w.0, w.1.1)),
          (
            m1,
            word,
            (
              m2,
              trick_to e m1 w.0 m2 name,
              (w.1, (m3, left, inside), refl),
            ),
          ),
          refl,
        ),
        is,
      )))
  int_part_to e ts int m1 x rest word (inr (inr (w, (m2, name, inl (body, behind, made)), is))) =
      inr (inr (inl (
        method_of text limit w.0 body,
        inr (
          (int, (w.0, body)),
          (
            m1,
            word,
            (
              m2,
              free_to e m1 w.0 m2 name,
              behind,
            ),
          ),
          refl,
        ),
        ap (int_part_of text limit w.0) made ∙ is,
      )))
  int_part_to e ts int m1 x rest word (inr (inr (w, (m2, name, inr (z, (m3, lengths, more), made)), is))) =
      inr (inl (
        members.members_of text limit (tree.Basic scalar.Int) (declarator_of text w.0 z.0 ∷ z.1),
        basic_members e ts int.line scalar.Int m1 (declarator_of text w.0 z.0 ∷ z.1) rest (int_type e ts int m1 word)
            ((declarator_of text w.0 z.0, z.1), (m3, ((w.0, z.0), (m2, inr (inr name), lengths), refl), more), refl),
        ap (int_part_of text limit w.0) made ∙ is,
      ))

  part_to : (e ts : List Token) (x : Part) (rest : List Token) → Has e (read.part text limit n) ts x rest
      → Has e (part text limit n) ts x rest
  unfolding StartsWith part_body method_body member_body after_name_body constructor_body
  part_to e ts x rest (inl p) = inl p
  part_to e ts x rest (inr (inl (v, p, is))) = inr (inr (inl (method_of text limit v.1.0 v.1.1, inl (v, p, refl), is)))
  part_to e ts x rest (inr (inr (inl (v, (m1, word, p), is)))) =
      int_part_to e ts v.0 m1 x rest word (subst (λ y. Has e (read.int_part text limit n) m1 y rest) is p)
  part_to e ts x rest (inr (inr (inr (inl (v, (mid, written, ds), is))))) =
      let type = other_type e ts v.0 mid written in
      inr (inl (
        members.members_of text limit (tree.Basic v.0) v.1,
        basic_members e ts type.0 v.0 mid v.1 rest type.1 ds,
        is,
      ))
  part_to e ts x rest (inr (inr (inr (inr (v, (mid, name, inl (js, (w, p, listed), made)), is))))) =
      inr (inr (inr (
        (v.0, w),
        (mid, name, p),
        ap (λ j. named_part_of text limit v.0 (constructs j)) listed ∙
            (ap (named_part_of text limit v.0) made ∙ is),
      )))
  part_to e ts x rest (inr (inr (inr (inr (v, (mid, name, inr (ds, p, made)), is))))) =
      inr (inl (
        members.members_of text limit (members.custom text limit v.0) ds,
        inr ((v.0, ds), (mid, name, p), refl),
        ap (named_part_of text limit v.0) made ∙ is,
      ))

  -- members of the type `int`, which begin like a method
  int_members_from : (e ts : List Token) (t : Token) (mid : List Token) (ds : List Declarator) (x : Part)
      (rest : List Token)
      → Has e (one the.Int) ts t mid → Has e (members.declarators text limit) mid ds rest
      → tree.HasMembers (members.members_of text limit (tree.Basic scalar.Int) ds) ≡ x
      → Has e (read.part text limit n) ts x rest
  unfolding StartsWith part_body int_part_body after_int_body declarators_body declarator_body free_name_body
  int_members_from e ts t mid ds x rest word (w, (m2, (z, (m3, inl p, lengths), made), more), listed) is = absurd p
  int_members_from e ts t mid ds x rest word (w, (m2, (z, (m3, inr (inl p), lengths), made), more), listed) is =
      absurd p
  int_members_from e ts t mid ds x rest word (w, (m2, (z, (m3, inr (inr name), lengths), made), more), listed) is =
      inr (inr (inl (
        (t, int_part_of text limit z.0 (is_member z.1 w.1)),
        (mid, word, inr (inr ((z.0, is_member z.1 w.1), (m3, name, inr ((z.1, w.1), (m2, lengths, more), refl)), refl))),
        ap (λ d. tree.HasMembers (members.members_of text limit (tree.Basic scalar.Int) (d ∷ w.1))) made
            ∙ (ap (λ all. tree.HasMembers (members.members_of text limit (tree.Basic scalar.Int) all)) listed ∙ is),
      )))

  keyword_members_from : (e ts : List Token) (b : ℕ × _) (mid : List Token) (ds : List Declarator) (x : Part)
      (rest : List Token)
      → Has e basic ts b mid → Has e (members.declarators text limit) mid ds rest
      → tree.HasMembers (members.members_of text limit (tree.Basic b.1) ds) ≡ x
      → Has e (read.part text limit n) ts x rest
  unfolding StartsWith part_body basic_body other_type_body
  keyword_members_from e ts b mid ds x rest (inl (t, p, made)) q is =
      elim (split_scalar (class_of t) p.1) [
        | inl int ↦ int_members_from e ts t mid ds x rest (p.0, int) q
            (ap (λ s. tree.HasMembers (members.members_of text limit (tree.Basic s) ds))
            (sym (int_scalar (class_of t) int) ∙ ap (λ y. y.1) made) ∙ is)
        | inr other ↦ inr (inr (inr (inl ((b.1, ds), (mid, inl (t, (p.0, other), ap (λ y. y.1) made), q), is))))
      ]
  keyword_members_from e ts b mid ds x rest (inr (w, p, made)) q is =
      inr (inr (inr (inl ((b.1, ds), (mid, inr (w, p, ap (λ y. y.1) made), q), is))))

  member_part_from : (e ts : List Token) (m : Members) (x : Part) (rest : List Token)
      → Has e (members.member text limit) ts m rest → tree.HasMembers m ≡ x → Has e (read.part text limit n) ts x rest
  unfolding StartsWith part_body member_body after_name_body
  member_part_from e ts m x rest (inl (v, (mid, p, q), made)) is =
      keyword_members_from e ts v.0 mid v.1 x rest p q (ap tree.HasMembers made ∙ is)
  member_part_from e ts m x rest (inr (v, (mid, name, q), made)) is =
      inr (inr (inr (inr ((v.0, has_members v.1), (mid, name, inr (v.1, q, refl)), ap tree.HasMembers made ∙ is))))

  method_part_from : (e ts : List Token) (m : _) (x : Part) (rest : List Token)
      → Has e (methods.method text limit n) ts m rest → tree.HasMethod m ≡ x → Has e (read.part text limit n) ts x rest
  unfolding StartsWith part_body method_body int_part_body after_int_body int_body
  method_part_from e ts m x rest (inl (v, p, made)) is = inr (inl (v, p, ap tree.HasMethod made ∙ is))
  method_part_from e ts m x rest (inr (v, (m1, word, (m2, name, (u, (m3, left, inside), behind))), made)) is =
      elim (split_name (class_of v.1.0) name.1) [
        | inl trick ↦ inr (inr (inl (
          (v.0, int_part_of text limit v.1.0 (does u.1)),
          (m1, word, inr (inl ((v.1.0, u), (m2, (name.0, trick), (m3, left, inside)), refl))),
          ap (λ b. tree.HasMethod (method_of text limit v.1.0 b)) behind ∙ (ap tree.HasMethod made ∙ is),
        )))
        | inr free ↦ inr (inr (inl (
          (v.0, int_part_of text limit v.1.0 (does v.1.1)),
          (
            m1,
            word,
            inr (inr (
              (v.1.0, does v.1.1),
              (
                m2,
                (name.0, free),
                inl (
                  v.1.1,
                  (
                    u,
                    (m3, left, inside),
                    behind,
                  ),
                  refl,
                ),
              ),
              refl,
            )),
          ),
          ap tree.HasMethod made ∙ is,
        )))
      ]

  part_from : (e ts : List Token) (x : Part) (rest : List Token) → Has e (part text limit n) ts x rest
      → Has e (read.part text limit n) ts x rest
  unfolding StartsWith part_body after_name_body constructor_body
  part_from e ts x rest (inl p) = inl p
  part_from e ts x rest (inr (inl (m, p, is))) = member_part_from e ts m x rest p is
  part_from e ts x rest (inr (inr (inl (m, p, is)))) = method_part_from e ts m x rest p is
  part_from e ts x rest (inr (inr (inr (v, (mid, name, p), is)))) =
      inr (inr (inr (inr ((v.0, constructs v.1.1.1.1.0), (mid, name, inl (v.1.1.1.1.0, (v.1, p, refl), refl)), is))))

pub files_have_productions : FilesHaveProductions
unfolding StartsWith definition_body file_body
files_have_productions text n levels = record {
  item_values = λ e ts x rest. (value_to e ts x rest, value_from e ts x rest);
  items = λ e ts x rest. (item_to text e ts x rest, item_from text e ts x rest);
  enums = λ e ts x rest. (enum_to text n e ts x rest, enum_from text n e ts x rest);
  lengths = λ e ts x rest. (length_to e ts x rest, length_from e ts x rest);
  declarators = λ e ts x rest. (declarator_to text e ts x rest, declarator_from text e ts x rest);
  member_lists = λ e ts x rest. (member_to text n e ts x rest, member_from text n e ts x rest);
  structs = λ e ts x rest. (struct_to text (suc n) e ts x rest, struct_from text (suc n) e ts x rest);
  times = λ e ts x rest. (times_to e ts x rest, times_from e ts x rest);
  job_lines = λ e ts x rest. (job_to text e ts x rest, job_from text e ts x rest);
  parts = λ e ts x rest. (part_to text (suc n) levels e ts x rest, part_from text (suc n) levels e ts x rest);
  classes = λ e ts x rest. (class_to text (suc n) levels e ts x rest, class_from text (suc n) levels e ts x rest);
  includes = λ e ts x rest. (include_to e ts x rest, include_from e ts x rest);
  objects = λ e ts x rest. (object_to text (suc n) e ts x rest, object_from text (suc n) e ts x rest);
  definitions = λ e ts x rest. (λ p. p, λ p. p);
  files = λ e ts x rest. (λ p. p, λ p. p);
}
