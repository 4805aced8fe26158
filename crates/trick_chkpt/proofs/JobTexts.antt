-- A fault names one job: no text of a job is a prefix of another's.
use Rattle.std.proofs.Common.{◌≡◌, ℕ, zero, suc, ◌+◌, ◌≤◌, ◌<◌, Bool, cond, true, false, not, List, [], ◌∷◌, ◌++◌, length, get_or, map, Ok, Err, refl, sym, ap, ◌∙◌, arith}
use Rattle.std.proofs.lemmas.Bool.{and_parts, and_from, eq-eqb}
use Rattle.std.proofs.lemmas.List.{append-nil}
use Rattle.std.proofs.lemmas.Slice.Eq.{bytes_eq-Decides}
use Rattle.std.specs.Fmt.{decimal}
use Rattle.std.specs.List.{list_all}
use Rattle.std.specs.Prelude.{nat_eq, codes, slice_get}
use Rattle.trick_chkpt_lines.specs.Faults.{job_text, job_texts}
use Rattle.trick_chkpt.proofs.Plain.{HasInstances, HasWords, is_word}
use Rattle.trick_codes.proofs.Codes.{back}
use Rattle.trick_codes.proofs.IsSound.{one_line-append, number_one_line}
use Rattle.trick_codes.specs.Code.{Code, ArePrefixFree, Fits, Sound, Told, free, is_free, largest, number, read, sequence}
use Rattle.trick_codes.specs.Lines.{is_one_line}
use Rattle.trick_lang.specs.Names.{are_apart, dot, job_name, method_name, object_name, of_one_instance}
use Rattle.trick_lang.specs.declared.job.Job.{Job}
use Rattle.trick_lang.specs.declared.method.Method.{Method}
use Rattle.trick_lang.specs.declared.object.Object.{Object}
use Rattle.trick_model.specs.Plan.{no_job}
use Rattle.trick_model.specs.declared.plan.Plan.{Plan}

-- ---- plain names
free-append : (end : ℕ) (us vs : List ℕ) → is_free end us ≡ true → is_free end vs ≡ true → is_free end (us ++ vs) ≡ true
free-append end [] vs h k = k
free-append end (u ∷ us) vs h k = go (nat_eq u end) h (free-append end us vs)
  where
    go : (b : Bool) → cond b false (is_free end us) ≡ true → (is_free end us ≡ true → is_free end vs ≡ true → is_free end (us ++ vs) ≡ true) → cond b false (is_free end (us ++ vs)) ≡ true
    go true h others = h
    go false h others = others h k

word-append : (us vs : List ℕ) → is_word us ≡ true → is_word vs ≡ true → is_word (us ++ vs) ≡ true
word-append us vs h k =
    let p = and_parts _ _ h in
    let q = and_parts _ _ k in
    and_from _ _ (free-append 32 us vs p.0 q.0) (one_line-append us vs p.1 q.1)

plain_object : (objects : List Object) → list_all (λ (o : Object). is_word o.name) objects ≡ true → (k : ℕ) → is_word (object_name (slice_get objects k)) ≡ true
plain_object [] h k = refl
plain_object (o ∷ objects) h zero = (and_parts _ _ h).0
plain_object (o ∷ objects) h (suc k) = plain_object objects (and_parts _ _ h).1 k

plain_method : (methods : List Method) → list_all (λ (m : Method). is_word m.name) methods ≡ true → (k : ℕ) → is_word (method_name (slice_get methods k)) ≡ true
plain_method [] h k = refl
plain_method (m ∷ methods) h zero = (and_parts _ _ h).0
plain_method (m ∷ methods) h (suc k) = plain_method methods (and_parts _ _ h).1 k

-- the name and the instance that are told
abbrev name_told : Told (List ℕ × ℕ) → List ℕ
name_told (Ok x) = x.0.0
name_told (Err e) = []

abbrev number_told : Told (List ℕ × ℕ) → ℕ
number_told (Ok x) = x.0.1
number_told (Err e) = 0

module _ (plan : Plan) (plain : HasWords plan) where
  abbrev name_of : Job → List ℕ
  name_of job = job_name plan.program.objects plan.program.methods job

  plain_name : (job : Job) → is_word (name_of job) ≡ true
  plain_name job =
      word-append (object_name (slice_get plan.program.objects job.object)) (dot ∷ method_name (slice_get plan.program.methods job.method))
      (plain_object plan.program.objects plain.objects job.object)
      (word-append (dot ∷ []) (method_name (slice_get plan.program.methods job.method)) refl (plain_method plan.program.methods plain.methods job.method))

  -- each text is of one line
  pub one_line : (job : Job) → job.instance ≤ 4294967295 → is_one_line (job_text (name_of job) job.instance) ≡ true
  one_line job le =
      one_line-append (name_of job ++ codes " ") (decimal job.instance ++ codes " ")
      (one_line-append (name_of job) (codes " ") (and_parts _ _ (plain_name job)).1 refl)
      (number_one_line job.instance 32 (omega arith) refl)

  -- ---- one text is read as one name and instance
  abbrev named_job : ℕ → Code (List ℕ × ℕ)
  named_job most = sequence (free most 32) (λ name. number 0 largest 32)

  sound : (most : ℕ) → Sound (named_job most)
  sound most = (tt, λ name h. (omega arith, omega arith, omega arith, refl))

  fits : (most : ℕ) (job : Job) → length (name_of job) ≤ most → job.instance ≤ 4294967295 → Fits (named_job most) (name_of job, job.instance)
  fits most job short le = ((short, (and_parts _ _ (plain_name job)).0), (omega arith, omega arith))

  pub same_job : (a b : Job) (more : List ℕ) → a.instance ≤ 4294967295 → b.instance ≤ 4294967295
      → job_text (name_of b) b.instance ≡ job_text (name_of a) a.instance ++ more → (name_of a ≡ name_of b) × (a.instance ≡ b.instance)
  same_job a b more le_a le_b e =
      let most = length (name_of a) + length (name_of b) in
      let one = back (named_job most) (name_of b, b.instance) [] (sound most) (fits most b (omega arith) le_b) in
      let other = back (named_job most) (name_of a, a.instance) more (sound most) (fits most a (omega arith) le_a) in
      let same = sym other ∙ ap (read (named_job most)) (sym e ∙ sym (append-nil (job_text (name_of b) b.instance))) ∙ one in
      (ap name_told same, ap number_told same)

-- ---- two jobs of one name and instance are one
alike_at : {X : Type 0} (alike : X → X → Bool) (x : X) (xs : List X) (i : ℕ) (d : X) → i < length xs → list_all (λ y. not (alike x y)) xs ≡ true → alike x (get_or xs i d) ≡ false
alike_at alike x [] i d lt h = absurd (omega arith)
alike_at alike x (y ∷ xs) zero d lt h = go (alike x y) (and_parts _ _ h).0
  where
    go : (b : Bool) → not b ≡ true → b ≡ false
    go true h = absurd cc
    go false h = refl
alike_at alike x (y ∷ xs) (suc i) d lt h = alike_at alike x xs i d (omega arith) (and_parts _ _ h).1

apart_at : {X : Type 0} (alike : X → X → Bool) (xs : List X) → are_apart alike xs ≡ true → (i j : ℕ) (d : X) → i < length xs → j < length xs
    → alike (get_or xs i d) (get_or xs j d) ≡ true → alike (get_or xs j d) (get_or xs i d) ≡ true → i ≡ j
apart_at alike [] h i j d lt le e f = absurd (omega arith)
apart_at alike (x ∷ xs) h zero zero d lt le e f = refl
apart_at alike (x ∷ xs) h zero (suc j) d lt le e f = let no = alike_at alike x xs j d (omega arith) (and_parts _ _ h).0 in absurd cc
apart_at alike (x ∷ xs) h (suc i) zero d lt le e f = let no = alike_at alike x xs i d (omega arith) (and_parts _ _ h).0 in absurd cc
apart_at alike (x ∷ xs) h (suc i) (suc j) d lt le e f = ap suc (apart_at alike xs (and_parts _ _ h).1 i j d (omega arith) (omega arith) e f)

text_at : {X Y : Type 0} (f : X → Y) (xs : List X) (i : ℕ) (d : X) (e : Y) → i < length xs → get_or (map f xs) i e ≡ f (get_or xs i d)
text_at f [] i d e lt = absurd (omega arith)
text_at f (x ∷ xs) zero d e lt = refl
text_at f (x ∷ xs) (suc i) d e lt = text_at f xs i d e (omega arith)

pub length_map : {X Y : Type 0} (f : X → Y) (xs : List X) → length (map f xs) ≡ length xs
length_map f [] = refl
length_map f (x ∷ xs) = ap suc (length_map f xs)

pub texts_apart : (plan : Plan) → HasWords plan → HasInstances plan → ArePrefixFree (job_texts plan)
texts_apart plan plain small i j lt le more e =
    let jobs = plan.program.jobs in
    let text = λ (job : Job). job_text (job_name plan.program.objects plan.program.methods job) job.instance in
    let size = length_map text jobs in
    let d = no_job in
    let in_i : i < length jobs = omega (arith, lt, size) in
    let in_j : j < length jobs = omega (arith, le, size) in
    let a = get_or jobs i d in
    let b = get_or jobs j d in
    let same = same_job plan plain a b more (small i d in_i) (small j d in_j) (sym (text_at text jobs j d [] in_j) ∙ e ∙ ap (λ (us : List ℕ). us ++ more) (text_at text jobs i d [] in_i)) in
    let alike = of_one_instance plan.program.objects plan.program.methods in
    apart_at alike jobs plan.program.job_names i j d in_i in_j
    (and_from _ _ ((bytes_eq-Decides _ _).1 same.0) (eq-eqb _ _ same.1))
    (and_from _ _ ((bytes_eq-Decides _ _).1 (sym same.0)) (eq-eqb _ _ (sym same.1)))
