-- How a command goes on a shelf.
use Rattle.std.proofs.Common.{◌≡◌, ℕ, List, [], ◌∷◌, ◌++◌, Err, None, Some, option_to_list, refl, sym, ◌∙◌, ap, ap₂, subst, append_assoc}
use Rattle.std.specs.Prelude.{IfErr, Option, Result}
use Rattle.trick_model.specs.declared.plan.Plan.{Plan}
use Rattle.trick_outside.proofs.DoesLemmas.{Joins, went_none, went_then}
use Rattle.trick_outside.specs.Calls.{Call, Get, Read, Stopped}
use Rattle.trick_outside.specs.Does.{Went}
use Rattle.trick_outside.specs.declared.shelf.Shelf.{Ghosts}
use Rattle.trick_outside.specs.declared.stop.Stop.TheVariants.{Memory, Shelf}
use Rattle.trick_top_texts.specs.Answers.{IsUnready}
use Rattle.trick_top_texts.specs.Texts.{IsReady}
use Rattle.trick_top_texts.specs.declared.unready.Unready.TheVariants as unready
use Rattle.trick_top_texts.specs.declared.unready.Unready.{Unready}
use Rattle.trick_top_alone.proofs.FoundLemmas.{names-append, reads-append, texts-append}
use Rattle.trick_top_alone.specs.Found.{Found, names, reads}
use Rattle.trick_top_alone.specs.Acts.{HasActed}
use Rattle.trick_top_alone.specs.Outcome.{HasFound, HasGone, HasNotFound, HasPerformed, Performed, Unread, acted, gone_on, missing, no_memory_to_read, not_read, not_understood, plan_refused, text_refused}
use Rattle.trick_top_alone.specs.Outcome as outcome
use Rattle.trick_top_alone.specs.Sources.{AreNamed, Sources, texts_of}
use Rattle.trick_top_alone.specs.Verdict.{NoFile, OutOfMemory, ShelfFault, Usage, Verdict, unready_verdict, verdict_of}
use Rattle.trick_top_alone.specs.declared.verdict.Verdict as declared
use Rattle.trick_top_alone.specs.Words.{Asked, Nothing, Unknown, aim_of_task, journal_of, names_of}
use Rattle.trick_top_words.specs.declared.command.Texts.{Texts}
use Rattle.trick_top_words.specs.declared.command.Command.TheVariants as commands
use Rattle.trick_top_alone.specs.Aims.{Aim}

-- the words ask for nothing
pub gone_nowhere : {S : Type 0} {shelf : Ghosts S} (s : S) → shelf.called s [] s → HasGone shelf s s Nothing Usage
gone_nowhere s none = record { calls = []; went = went_none s none; outcome = (refl, refl) }

-- there was no memory to read the words
pub gone_unknown : {S : Type 0} {shelf : Ghosts S} (s : S) → shelf.called s [] s
    → HasGone shelf s s Unknown OutOfMemory
gone_unknown s none = record { calls = []; went = went_none s none; outcome = (refl, refl) }

-- the texts decide without a call of the shelf
pub performed_quiet : {S : Type 0} {shelf : Ghosts S} (s : S) (t : Aim) (given : Sources) (verdict : Verdict) → shelf.called s [] s
    → Performed t given [] verdict → HasPerformed shelf s s t given verdict
performed_quiet s t given verdict none is = record { calls = []; went = went_none s none; performed = is }

-- the texts have a plan, and it went on with it
pub performed_acted : {S : Type 0} {shelf : Ghosts S} {old new : S} {plan : Plan} (t : Aim) (given : Sources) (verdict : Verdict) → IsReady given.s_define given.input plan
    → HasActed shelf old new plan given.from given.journal t verdict → HasPerformed shelf old new t given verdict
performed_acted t given verdict ready on = record { calls = on.calls; went = on.went; performed = acted ready on.acts }

-- the texts that are lent are those that were read
pub performed_same : {S : Type 0} {shelf : Ghosts S} {old new : S} (t : Aim) (lent given : Sources) (verdict : Verdict) → lent ≡ given
    → HasPerformed shelf old new t lent verdict → HasPerformed shelf old new t given verdict
performed_same t lent given verdict same on =
    record { calls = on.calls; went = on.went; performed = subst (λ (g : Sources). Performed t g on.calls verdict) same on.performed }

-- the texts have no plan to go on with
pub unready_performed : (t : Aim) (given : Sources) (refused : Unready) → IsUnready given.s_define given.input refused → Performed t given [] (unready_verdict refused)
unready_performed t given (unready.TextRefused line) is = text_refused is
unready_performed t given (unready.PlanRefused line) is = plan_refused is
unready_performed t given unready.OutOfMemory is = not_understood

pub performed_unready : {S : Type 0} {shelf : Ghosts S} (s : S) (t : Aim) (given : Sources) (verdict : Verdict) (refused : Unready) → shelf.called s [] s
    → verdict ≡ unready_verdict refused → IsUnready given.s_define given.input refused → HasPerformed shelf s s t given verdict
performed_unready s t given verdict refused none is unready =
    performed_quiet s t given verdict none (subst (Performed t given []) (sym is) (unready_performed t given refused unready))

-- a file was not read
pub gone_unread : {S : Type 0} {shelf : Ghosts S} {old new : S} {wanted : List (List ℕ)} (about : Texts) (verdict : Verdict) → wanted ≡ names_of about
    → HasNotFound shelf old new wanted verdict → HasGone shelf old new (Asked (commands.Texts about)) verdict
gone_unread about verdict same is = record { calls = is.calls; went = is.went; outcome = outcome.unread (subst (λ names. Unread names is.calls verdict) same is.unread) }

-- all files were found, and it went on with their texts
pub gone_further : {S : Type 0} {shelf : Ghosts S} {old mid new : S} (about : Texts) (given lent : Sources) (verdict : Verdict) → Joins shelf → AreNamed about given
    → HasFound shelf old mid (names_of about) (texts_of given) → lent ≡ given → HasPerformed shelf mid new (aim_of_task about.task) lent verdict
    → HasGone shelf old new (Asked (commands.Texts about)) verdict
gone_further about given lent verdict join named found same on = record {
  calls = reads found.files ++ on.calls;
  went = went_then join found.went on.went;
  outcome = gone_on found.files on.calls found.named
      (record { given = given; named = named; are = sym found.is; performed = subst (λ g. Performed (aim_of_task about.task) g on.calls verdict) same on.performed });
}

-- ---- files that are read one after another

-- no file
pub found_none : {S : Type 0} {shelf : Ghosts S} (s : S) → shelf.called s [] s → HasFound shelf s s [] []
found_none s none = record { files = []; named = refl; is = refl; went = went_none s none }

-- one file
pub found_one : {S : Type 0} {shelf : Ghosts S} {old new : S} (name text : List ℕ) → Went shelf old new (Read name (Some text) ∷ []) → HasFound shelf old new (name ∷ []) (text ∷ [])
found_one name text went = record { files = record { name = name; text = text } ∷ []; named = refl; is = refl; went = went }

module _ {S : Type 0} {shelf : Ghosts S} {old mid : S} (join : Joins shelf) {front given : List (List ℕ)} (found : HasFound shelf old mid front given) where
  -- more of them were found
  pub found_more : {new : S} {back more : List (List ℕ)} → HasFound shelf mid new back more → HasFound shelf old new (front ++ back) (given ++ more)
  found_more {new = new} {back = back} {more = more} late = record {
    files = found.files ++ late.files;
    named = ap₂ (λ (a b : List (List ℕ)). a ++ b) found.named late.named ∙ sym (names-append found.files late.files);
    is = ap₂ (λ (a b : List (List ℕ)). a ++ b) found.is late.is ∙ sym (texts-append found.files late.files);
    went = subst (λ c. Went shelf old new c) (sym (reads-append found.files late.files)) (went_then join found.went late.went);
  }

  -- what was read before a file that was not read
  before : (early late : List Found) (calls : List Call) → reads early ++ (reads late ++ calls) ≡ reads (early ++ late) ++ calls
  before early late calls = sym (append_assoc (reads early) (reads late) calls) ∙ ap (λ c. c ++ calls) (sym (reads-append early late))

  wanted_too : (back : List (List ℕ)) (late : List Found) (others : List (List ℕ)) → back ≡ names late ++ others → front ++ back ≡ names (found.files ++ late) ++ others
  wanted_too back late others is =
      ap₂ (λ (a b : List (List ℕ)). a ++ b) found.named is ∙ sym (append_assoc (names found.files) (names late) others) ∙ ap (λ n. n ++ others) (sym (names-append found.files late))

  unread_too : (back : List (List ℕ)) {calls : List Call} {verdict : Verdict} → Unread back calls verdict → Unread (front ++ back) (reads found.files ++ calls) verdict
  unread_too back (missing files name others named) =
      subst (λ c. Unread (front ++ back) c (NoFile name)) (sym (before found.files files (Read name None ∷ [])))
      (missing (found.files ++ files) name others (wanted_too back files (name ∷ others) named))
  unread_too back (not_read files name others named) =
      subst (λ c. Unread (front ++ back) c ShelfFault) (sym (before found.files files (Stopped (Get name) Shelf ∷ [])))
      (not_read (found.files ++ files) name others (wanted_too back files (name ∷ others) named))
  unread_too back (no_memory_to_read files name others named) =
      subst (λ c. Unread (front ++ back) c OutOfMemory) (sym (before found.files files (Stopped (Get name) Memory ∷ [])))
      (no_memory_to_read (found.files ++ files) name others (wanted_too back files (name ∷ others) named))

  -- one of the next was not read
  pub not_found_later : {new : S} {back : List (List ℕ)} {verdict : Verdict} → HasNotFound shelf mid new back verdict → HasNotFound shelf old new (front ++ back) verdict
  not_found_later {back = back} {verdict = verdict} late =
      record { calls = reads found.files ++ late.calls; went = went_then join found.went late.went; unread = unread_too back late.unread }

-- one was not read, and so none of the next
unread_first : (front back : List (List ℕ)) {calls : List Call} {verdict : Verdict} → Unread front calls verdict → Unread (front ++ back) calls verdict
unread_first front back (missing files name others named) =
    missing files name (others ++ back) (ap (λ n. n ++ back) named ∙ append_assoc (names files) (name ∷ others) back)
unread_first front back (not_read files name others named) =
    not_read files name (others ++ back) (ap (λ n. n ++ back) named ∙ append_assoc (names files) (name ∷ others) back)
unread_first front back (no_memory_to_read files name others named) =
    no_memory_to_read files name (others ++ back) (ap (λ n. n ++ back) named ∙ append_assoc (names files) (name ∷ others) back)

pub not_found_before : {S : Type 0} {shelf : Ghosts S} {old new : S} (front back : List (List ℕ)) (verdict : Verdict) → HasNotFound shelf old new front verdict
    → HasNotFound shelf old new (front ++ back) verdict
not_found_before front back verdict is = record { calls = is.calls; went = is.went; unread = unread_first front back is.unread }

-- the error that a `?` hands on
pub not_found_handed : {S T : Type 0} {shelf : Ghosts S} {old new : S} {wanted : List (List ℕ)} (result : Result T declared.Verdict) (e f : declared.Verdict) → result ≡ Err f → f ≡ e
    → HasNotFound shelf old new wanted (verdict_of e) → IfErr result (λ v. HasNotFound shelf old new wanted (verdict_of v))
not_found_handed {shelf = shelf} {old = old} {new = new} {wanted = wanted} result e f at same is =
    subst (λ (r : Result _ declared.Verdict). IfErr r (λ v. HasNotFound shelf old new wanted (verdict_of v))) (sym at)
    (subst (λ (v : declared.Verdict). HasNotFound shelf old new wanted (verdict_of v)) (sym same) is)

-- the files of a command
module _ {S : Type 0} {shelf : Ghosts S} (join : Joins shelf) (about : Texts) where
  -- the S_define was not read
  pub no_s_define : {old new : S} {verdict : Verdict} → HasNotFound shelf old new (about.s_define ∷ []) verdict → HasNotFound shelf old new (names_of about) verdict
  no_s_define {verdict = verdict} is =
      not_found_before (about.s_define ∷ []) (about.input ∷ (option_to_list about.from ++ option_to_list (journal_of about.task))) verdict is

  module _ {old mid : S} {one : List (List ℕ)} (first : HasFound shelf old mid (about.s_define ∷ []) one) where
    -- the input was not read
    pub no_input : {new : S} {verdict : Verdict} → HasNotFound shelf mid new (about.input ∷ []) verdict → HasNotFound shelf old new (names_of about) verdict
    no_input {verdict = verdict} is =
        not_found_later join first (not_found_before (about.input ∷ []) (option_to_list about.from ++ option_to_list (journal_of about.task)) verdict is)

    module _ {two : List (List ℕ)} {next : S} (second : HasFound shelf mid next (about.input ∷ []) two) (from : Option (List ℕ)) (is_from : from ≡ about.from) where
      -- the checkpoint was not read
      pub no_checkpoint : {new : S} {verdict : Verdict} → HasNotFound shelf next new (option_to_list from) verdict → HasNotFound shelf old new (names_of about) verdict
      no_checkpoint {new = new} {verdict = verdict} is =
          not_found_later join first (not_found_later join second
          (not_found_before (option_to_list about.from) (option_to_list (journal_of about.task)) verdict
          (subst (λ (f : Option (List ℕ)). HasNotFound shelf next new (option_to_list f) verdict) is_from is)))

      module _ {three : List (List ℕ)} {last : S} (third : HasFound shelf next last (option_to_list from) three) (journal : Option (List ℕ)) (is_journal : journal ≡ journal_of about.task) where
        -- the checkpoint, as the command names it
        as_named : HasFound shelf next last (option_to_list about.from) three
        as_named = subst (λ (f : Option (List ℕ)). HasFound shelf next last (option_to_list f) three) is_from third

        -- the journal was not read
        pub no_journal : {new : S} {verdict : Verdict} → HasNotFound shelf last new (option_to_list journal) verdict → HasNotFound shelf old new (names_of about) verdict
        no_journal {new = new} {verdict = verdict} is =
            not_found_later join first (not_found_later join second (not_found_later join as_named
            (subst (λ (j : Option (List ℕ)). HasNotFound shelf last new (option_to_list j) verdict) is_journal is)))

        -- all were found
        pub found_all : {new : S} {four : List (List ℕ)} → HasFound shelf last new (option_to_list journal) four → HasFound shelf old new (names_of about) (one ++ (two ++ (three ++ four)))
        found_all {new = new} {four = four} fourth =
            found_more join first (found_more join second (found_more join as_named
            (subst (λ (j : Option (List ℕ)). HasFound shelf last new (option_to_list j) four) is_journal fourth)))
