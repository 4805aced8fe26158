-- What the reader knows of the tree of a text: it passes the tests.
use Rattle.std.proofs.Common.{◌≡◌, ℕ, zero, suc, ◌≤◌, ℤ, pos, ◌-ℤ◌, nat_abs, Bool, true, false, not, ◌&&◌, nat_le, codes, List, [], ◌∷◌, length, Option, Some, None, Ok, refl, sym, ap, ◌∙◌, inl, inr, subst, arith}
use Rattle.std.proofs.Math.IntN.{negsuc, +ℤ_idl}
use Rattle.std.proofs.lemmas.Bool.{le-leb}
use Rattle.std.specs.Str.{bytes_eq}
use Rattle.trick_body_symbols.specs.Expressions.{names, name_of, wholes}
use Rattle.trick_body_symbols.specs.Lexemes.{lexemes_of}
use Rattle.trick_body_symbols.specs.Limits.{list_limit, method_levels}
use Rattle.trick_body_symbols.specs.Symbols.{Token, number_of}
use Rattle.trick_body_symbols.specs.declared.symbol.Symbol.{Symbol}
use Rattle.trick_body_symbols.specs.declared.symbol.Symbol.TheVariants as the
use Rattle.trick_grammar.proofs.Tests.{or_false, subset_one_of}
use Rattle.trick_grammar.specs.Classes.{is_one_of}
use Rattle.trick_grammar.specs.Gives.{class_of}
use Rattle.trick_lang.specs.Names.{is_short, is_spelled}
use Rattle.trick_lang.specs.SyntaxTree.{EnumItem, JobLine, Members, Name, SDefine, Statements}
use Rattle.trick_base.specs.Time.{tic_limit}
use Rattle.trick_sdef_classes.specs.Profile.{IsAnswer, file}
use Rattle.trick_sdef_jobs.specs.Jobs.{Times, cycle_body, every, every_body, job, job_body, job_of, job_class_of, other_class_body, other_classes, phase, phase_body, phase_of, positive_times, span, span_of, thread_of, time_body, timed, timed_body, times_body, unscheduled}
use Rattle.trick_sdef_classes.specs.Members as members
use Rattle.trick_sdef_classes.specs.Members.{free_names, item_value, item_value_body, length_body, lengths_body, lengths_of}
use Rattle.trick_sdef_classes.proofs.Loops.{body_short}
use Rattle.trick_sdef_classes.proofs.Numbers as numbers
use Rattle.trick_sdef_classes.proofs.Numbers.{few_of_whole, length_is, phase_is, time_is, whole_is}
use Rattle.trick_sdef_classes.proofs.Parts.{AreRight, Gives, IsBody, file_right, some_of}
use Rattle.trick_body_symbols.proofs.Tokens.{IsSeen, each_is_seen, name_is, no_word}
use Rattle.trick_body_symbols.proofs.Words.{word_is_spelled}
use Rattle.trick_body_symbols.proofs.Yields.{OnSome, Yields, yields}
use Rattle.trick_lang.specs.Facts.{are_right_lengths, has_no_times, has_right_times, have_declarators, have_items, have_no_keyword, have_right_lengths, have_right_phases, have_right_threads, have_right_times, have_right_values, have_short_lists, have_short_loops, have_short_names, have_spelled_names, give_no_trick, is_keyword, is_right_value, keywords}
use Rattle.trick_lang.specs.PartTests.{PartTests, anything, file_passes}
use Rattle.trick_lang.specs.Loops.{are_short_loops}
use Rattle.trick_text.specs.Numbers.{whole_limit}
use Rattle.trick_base.specs.Time.{tic_limit}
use Rattle.trick_text.specs.Tokens.{IsCut}
use Rattle.trick_text.specs.declared.token.Style.TheVariants as style
use Rattle.trick_text.specs.declared.token.Token as cut

-- ---- from the text to its tree

-- the tree that a whole text is read as passes the test
abbrev pub Passes : (SDefine → Bool) → Type 0
Passes test = (text : List ℕ) (ts : List cut.Token) (ds : SDefine) → IsCut style.SDefine text ts None
    → IsAnswer text ts (Ok ds) → test ds ≡ true

each_passes : (l : PartTests) → ((text : List ℕ) → AreRight text list_limit method_levels l) → Passes (file_passes l)
each_passes l right text ts ds whole answer =
    let seen = each_is_seen style.SDefine text 0 ts (length text) whole.1 in
    let given = yields number_of class_of (IsSeen text) [] (file text) (lexemes_of text ts) ds [] seen answer.0 in
    file_right text list_limit method_levels (omega arith) l (right text) ds given.0

-- ---- one test, and all others pass anything

module _ (text : List ℕ) where
  abbrev Right : PartTests → Type 0
  Right l = AreRight text list_limit method_levels l

  by_name : (p : Name → Bool)
      → ((t : Token) → is_one_of number_of t.class names ≡ true → IsSeen text t → p (name_of text t) ≡ true)
      → Right (record anything { name = p })
  by_name p holds = record {
    name = holds;
    given = λ t one seen. refl;
    list = λ n few. refl;
    items = λ items some. refl;
    item = λ i is. refl;
    members = λ m some. refl;
    lengths = λ ls is. refl;
    job = λ j is. refl;
    body = λ b is. refl;
  }

  by_given : (p : Name → Bool)
      → ((t : Token) → is_one_of number_of t.class free_names ≡ true → IsSeen text t → p (name_of text t) ≡ true)
      → Right (record anything { given = p })
  by_given p holds = record {
    name = λ t one seen. refl;
    given = holds;
    list = λ n few. refl;
    items = λ items some. refl;
    item = λ i is. refl;
    members = λ m some. refl;
    lengths = λ ls is. refl;
    job = λ j is. refl;
    body = λ b is. refl;
  }

  by_list : (p : ℕ → Bool) → ((n : ℕ) → n ≤ list_limit → p n ≡ true) → Right (record anything { list = p })
  by_list p holds = record {
    name = λ t one seen. refl;
    given = λ t one seen. refl;
    list = holds;
    items = λ items some. refl;
    item = λ i is. refl;
    members = λ m some. refl;
    lengths = λ ls is. refl;
    job = λ j is. refl;
    body = λ b is. refl;
  }

  by_items : (p : List EnumItem → Bool) → ((items : List EnumItem) → 1 ≤ length items → p items ≡ true)
      → Right (record anything { items = p })
  by_items p holds = record {
    name = λ t one seen. refl;
    given = λ t one seen. refl;
    list = λ n few. refl;
    items = holds;
    item = λ i is. refl;
    members = λ m some. refl;
    lengths = λ ls is. refl;
    job = λ j is. refl;
    body = λ b is. refl;
  }

  by_item : (p : EnumItem → Bool) → ((i : EnumItem) → OnSome (Gives text item_value) i.value → p i ≡ true)
      → Right (record anything { item = p })
  by_item p holds = record {
    name = λ t one seen. refl;
    given = λ t one seen. refl;
    list = λ n few. refl;
    items = λ items some. refl;
    item = holds;
    members = λ m some. refl;
    lengths = λ ls is. refl;
    job = λ j is. refl;
    body = λ b is. refl;
  }

  by_members : (p : Members → Bool) → ((m : Members) → 1 ≤ length m.declarators → p m ≡ true)
      → Right (record anything { members = p })
  by_members p holds = record {
    name = λ t one seen. refl;
    given = λ t one seen. refl;
    list = λ n few. refl;
    items = λ items some. refl;
    item = λ i is. refl;
    members = holds;
    lengths = λ ls is. refl;
    job = λ j is. refl;
    body = λ b is. refl;
  }

  by_lengths : (p : List ℕ → Bool) → ((ls : List ℕ) → Gives text members.lengths ls → p ls ≡ true)
      → Right (record anything { lengths = p })
  by_lengths p holds = record {
    name = λ t one seen. refl;
    given = λ t one seen. refl;
    list = λ n few. refl;
    items = λ items some. refl;
    item = λ i is. refl;
    members = λ m some. refl;
    lengths = holds;
    job = λ j is. refl;
    body = λ b is. refl;
  }

  by_job : (p : JobLine → Bool) → ((j : JobLine) → Gives text (job text) j → p j ≡ true)
      → Right (record anything { job = p })
  by_job p holds = record {
    name = λ t one seen. refl;
    given = λ t one seen. refl;
    list = λ n few. refl;
    items = λ items some. refl;
    item = λ i is. refl;
    members = λ m some. refl;
    lengths = λ ls is. refl;
    job = holds;
    body = λ b is. refl;
  }

  by_body : (p : Statements → Bool) → ((b : Statements) → IsBody text list_limit method_levels b → p b ≡ true)
      → Right (record anything { body = p })
  by_body p holds = record {
    name = λ t one seen. refl;
    given = λ t one seen. refl;
    list = λ n few. refl;
    items = λ items some. refl;
    item = λ i is. refl;
    members = λ m some. refl;
    lengths = λ ls is. refl;
    job = λ j is. refl;
    body = holds;
  }

  -- ---- names

  name_is_short : (t : Token) → is_one_of number_of t.class names ≡ true → IsSeen text t
      → is_short (name_of text t) ≡ true
  name_is_short t one seen = le-leb _ 64 (name_is style.SDefine names refl text t one seen).word.short

  name_is_spelled : (t : Token) → is_one_of number_of t.class names ≡ true → IsSeen text t
      → is_spelled (name_of text t) ≡ true
  name_is_spelled t one seen = word_is_spelled (name_of text t) (name_is style.SDefine names refl text t one seen).word

  name_is_no_keyword : (t : Token) → is_one_of number_of t.class names ≡ true → IsSeen text t
      → not (is_keyword (name_of text t)) ≡ true
  name_is_no_keyword t one seen =
      ap not (no_word names keywords refl (name_of text t) (name_is style.SDefine names refl text t one seen).symbol)

  name_is_not_trick : (t : Token) → is_one_of number_of t.class free_names ≡ true → IsSeen text t
      → not (bytes_eq (name_of text t) (codes "trick")) ≡ true
  name_is_not_trick t one seen =
      ap not (or_false _ false
      (no_word free_names (codes "trick" ∷ []) refl (name_of text t) (name_is style.SDefine free_names refl text t one seen).symbol)).0

  -- ---- numbers

  abbrev IsRightLength : ℕ → Type 0
  IsRightLength n = (1 ≤ n) × (n ≤ whole_limit)

  length_right : (n : ℕ) → Gives text members.length n → IsRightLength n
  unfolding Yields length_body
  length_right n (v, (bracket, (inl never, close)), is) = absurd never
  length_right n (v, (bracket, (inr (one, seen), close)), is) =
      subst IsRightLength is
      (length_is v.1.0 (whole_is text v.1.0 (subset_one_of number_of numbers.lengths wholes v.1.0.class refl one) seen) one)

  tested : (n : ℕ) → IsRightLength n → (nat_le 1 n && nat_le n whole_limit) ≡ true
  tested n is = rw (le-leb 1 n is.0, le-leb n whole_limit is.1) refl

  lengths_right : (ls : List ℕ) → Gives text members.lengths ls → are_right_lengths ls ≡ true
  unfolding Yields lengths_body
  lengths_right ls (v, inr none, is) =
      subst (λ ms. are_right_lengths ms ≡ true) is
      (subst (λ o. are_right_lengths (lengths_of o) ≡ true) (sym none) refl)
  lengths_right ls (v, inl (w, (first, inr none), made), is) =
      subst (λ ms. are_right_lengths ms ≡ true) is
      (subst (λ o. are_right_lengths (lengths_of o) ≡ true) made
      (subst (λ o. are_right_lengths (lengths_of (Some (w.0, o))) ≡ true) (sym none)
      (rw (tested w.0 (length_right w.0 first)) refl)))
  lengths_right ls (v, inl (w, (first, inl (n, second, again)), made), is) =
      subst (λ ms. are_right_lengths ms ≡ true) is
      (subst (λ o. are_right_lengths (lengths_of o) ≡ true) made
      (subst (λ o. are_right_lengths (lengths_of (Some (w.0, o))) ≡ true) again
      (rw (tested w.0 (length_right w.0 first), tested n (length_right n second)) refl)))

  size_of_negative : (n : ℕ) → nat_abs (pos 0 -ℤ pos n) ≡ n
  size_of_negative zero = refl
  size_of_negative (suc n) = ap nat_abs (+ℤ_idl (negsuc n))

  few_of : (t : Token) → (is_one_of number_of t.class wholes ≡ true) × IsSeen text t → t.number ≤ whole_limit
  few_of t is = few_of_whole t (whole_is text t is.0 is.1)

  value_right : (o : Option ℤ) → OnSome (Gives text item_value) o → is_right_value o ≡ true
  unfolding Yields item_value_body
  value_right None p = refl
  value_right (Some z) (v, (assign, inl (w, (minus, whole), made)), is) =
      subst (λ x. is_right_value (Some x) ≡ true) (made ∙ is)
      (le-leb _ whole_limit (subst (λ n. n ≤ whole_limit) (sym (size_of_negative w.1.number)) (few_of w.1 whole)))
  value_right (Some z) (v, (assign, inr (t, whole, made)), is) =
      subst (λ x. is_right_value (Some x) ≡ true) (made ∙ is) (le-leb _ whole_limit (few_of t whole))

  -- ---- times

  timed_right : (n : ℕ) → Gives text timed n → n ≤ tic_limit
  unfolding Yields timed_body time_body
  timed_right n (v, (inl never, comma), is) = absurd never
  timed_right n (v, (inr (one, seen), comma), is) =
      subst (λ k. k ≤ tic_limit) is (time_is text v.0 one seen).few

  every_right : (n : ℕ) → Gives text every n → (1 ≤ n) × (n ≤ tic_limit)
  unfolding Yields every_body cycle_body
  every_right n (v, (inl never, comma), is) = absurd never
  every_right n (v, (inr (inl never), comma), is) = absurd never
  every_right n (v, (inr (inr (one, seen)), comma), is) =
      let time = time_is text v.0 (subset_one_of number_of positive_times numbers.times v.0.class refl one) seen in
      subst (λ k. (1 ≤ k) × (k ≤ tic_limit)) is (time.some one, time.few)

  abbrev IsSpan : ℕ × ℕ → Type 0
  IsSpan s = (s.0 ≤ tic_limit) × (s.1 ≤ tic_limit)

  span_right : (s : ℕ × ℕ) → Gives text span s → IsSpan s
  unfolding Yields
  span_right s (v, inr none, is) =
      subst IsSpan is (subst (λ o. IsSpan (span_of o)) (sym none) (omega arith, omega arith))
  span_right s (v, inl (w, (start, inr none), made), is) =
      subst IsSpan is (subst (λ o. IsSpan (span_of o)) made
      (subst (λ o. IsSpan (span_of (Some (w.0, o)))) (sym none) (timed_right w.0 start, omega arith)))
  span_right s (v, inl (w, (start, inl (n, stop, again)), made), is) =
      subst IsSpan is (subst (λ o. IsSpan (span_of o)) made
      (subst (λ o. IsSpan (span_of (Some (w.0, o)))) again (timed_right w.0 start, timed_right n stop)))

  -- a class that is not that of scheduled jobs
  other_right : (s : Symbol) → is_one_of number_of s other_classes ≡ true → (j : JobLine) → has_no_times j ≡ true
      → has_right_times (job_class_of s) j ≡ true
  other_right the.DefaultData one j h = h
  other_right the.Initialization one j h = h
  other_right the.TopOfFrame one j h = h
  other_right the.EndOfFrame one j h = h
  other_right the.Freeze one j h = h
  other_right the.Unfreeze one j h = h
  other_right the.Checkpoint one j h = h
  other_right the.Restart one j h = h
  other_right the.Shutdown one j h = h
  other_right _ one j h = absurd cc

  -- the same of what stands in the parentheses of a job
  abbrev times_pass : Times → Type 0
  times_pass x = (thread phase : ℕ) (t : Token) → has_right_times x.class (job_of text thread phase x t) ≡ true

  times_right : (x : Times) → Gives text times_body x → times_pass x
  unfolding Yields times_body other_class_body
  times_right x (inl (t, inl never, is)) = absurd never
  times_right x (inl (t, inr (one, seen), is)) =
      subst times_pass is (λ thread phase u. other_right t.class one (job_of text thread phase (unscheduled t) u) refl)
  times_right x (inr (v, (cycle, (start_stop, class)), is)) =
      let c = every_right v.0 cycle in
      let s = span_right v.1.0 start_stop in
      subst times_pass is (λ thread phase u. rw (le-leb 1 v.0 c.0, le-leb v.0 tic_limit c.1, le-leb v.1.0.0 tic_limit s.0, le-leb v.1.0.1 tic_limit s.1) refl)

  job_times_right : (j : JobLine) → Gives text (job text) j → has_right_times j.class j ≡ true
  unfolding Yields job_body
  job_times_right j (v, (thread, (written, (bracket, (when, (close, called))))), is) =
      subst (λ k. has_right_times k.class k ≡ true) is
      (times_right v.1.1.1.0 when v.0 v.1.0 v.1.1.1.1.1)

  -- ---- threads and phases

  threads_are_few : (o : Option Token) → thread_of o ≤ 15
  threads_are_few None = omega arith
  threads_are_few (Some t) = omega arith

  job_thread_right : (j : JobLine) → Gives text (job text) j → nat_le j.thread 15 ≡ true
  unfolding Yields job_body
  job_thread_right j (v, ((o, thread, made), rest), is) =
      subst (λ k. nat_le k.thread 15 ≡ true) is (le-leb _ 15 (subst (λ n. n ≤ 15) made (threads_are_few o)))

  abbrev IsRightPhase : ℕ → Type 0
  IsRightPhase n = (1 ≤ n) × (n ≤ 65534)

  one_phase_right : (t : Token) → Gives text phase t → 1 ≤ t.number
  unfolding Yields phase_body
  one_phase_right t (inl never) = absurd never
  one_phase_right t (inr (one, seen)) = phase_is text t one seen

  phase_right : (o : Option Token) → OnSome (Gives text phase) o → IsRightPhase (phase_of o)
  phase_right None p = (omega arith, omega arith)
  phase_right (Some t) p = let some = one_phase_right t p in (omega (arith, some), omega arith)

  job_phase_right : (j : JobLine) → Gives text (job text) j → (nat_le 1 j.phase && nat_le j.phase 65534) ≡ true
  unfolding Yields job_body
  job_phase_right j (v, (thread, ((o, written, made), rest)), is) =
      let right = subst IsRightPhase made (phase_right o (some_of text phase o written)) in
      subst (λ k. (nat_le 1 k.phase && nat_le k.phase 65534) ≡ true) is
      (rw (le-leb 1 v.1.0 right.0, le-leb v.1.0 65534 right.1) refl)

-- ---- the facts

pub short_names : Passes have_short_names
short_names = each_passes (record anything { name = is_short }) (λ text. by_name text is_short (name_is_short text))

pub spelled_names : Passes have_spelled_names
spelled_names = each_passes (record anything { name = is_spelled }) (λ text. by_name text is_spelled (name_is_spelled text))

pub no_keyword : Passes have_no_keyword
no_keyword = each_passes (record anything { name = λ name. not (is_keyword name) })
    (λ text. by_name text (λ name. not (is_keyword name)) (name_is_no_keyword text))

pub no_trick : Passes give_no_trick
no_trick = each_passes (record anything { given = λ name. not (bytes_eq name (codes "trick")) })
    (λ text. by_given text (λ name. not (bytes_eq name (codes "trick"))) (name_is_not_trick text))

pub short_lists : Passes have_short_lists
short_lists = each_passes (record anything { list = λ n. nat_le n 4096 })
    (λ text. by_list text (λ n. nat_le n 4096) (λ n few. le-leb n 4096 few))

pub some_items : Passes have_items
some_items = each_passes (record anything { items = λ items. nat_le 1 (length items) })
    (λ text. by_items text (λ items. nat_le 1 (length items)) (λ items some. le-leb 1 (length items) some))

pub some_declarators : Passes have_declarators
some_declarators = each_passes (record anything { members = λ m. nat_le 1 (length m.declarators) })
    (λ text. by_members text (λ m. nat_le 1 (length m.declarators)) (λ m some. le-leb 1 (length m.declarators) some))

pub right_lengths : Passes have_right_lengths
right_lengths = each_passes (record anything { lengths = are_right_lengths })
    (λ text. by_lengths text are_right_lengths (lengths_right text))

pub right_values : Passes have_right_values
right_values = each_passes (record anything { item = λ i. is_right_value i.value })
    (λ text. by_item text (λ i. is_right_value i.value) (λ i is. value_right text i.value is))

pub right_times : Passes have_right_times
right_times = each_passes (record anything { job = λ j. has_right_times j.class j })
    (λ text. by_job text (λ j. has_right_times j.class j) (job_times_right text))

pub right_threads : Passes have_right_threads
right_threads = each_passes (record anything { job = λ j. nat_le j.thread 15 })
    (λ text. by_job text (λ j. nat_le j.thread 15) (job_thread_right text))

pub right_phases : Passes have_right_phases
right_phases = each_passes (record anything { job = λ j. nat_le 1 j.phase && nat_le j.phase 65534 })
    (λ text. by_job text (λ j. nat_le 1 j.phase && nat_le j.phase 65534) (job_phase_right text))

pub short_loops : Passes have_short_loops
short_loops = each_passes (record anything { body = are_short_loops })
    (λ text. by_body text are_short_loops (body_short text list_limit method_levels))
