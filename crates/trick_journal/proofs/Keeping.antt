-- What the reader keeps goes on with each entry.
use Rattle.std.proofs.Common.{◌≡◌, ℕ, ◌+◌, ◌≤◌, Bool, true, false, List, [], ◌∷◌, ◌++◌, refl, sym, ap, ◌∙◌, subst, arith}
use Rattle.std.proofs.lemmas.Bool.{and_from, and_parts}
use Rattle.std.proofs.lemmas.Bool.Decides.{nat_tests}
use Rattle.std.specs.BTreeSet.{contains}
use Rattle.std.specs.List.{list_any}
use Rattle.std.specs.Ordering.{nat_cmp}
use Rattle.std.specs.Prelude.{◌&&◌, ◌||◌, ◌==◌, if◌then◌else◌, nat_le, nat_lt}
use Rattle.trick_journal.proofs.Entries.{last_more, range_more, rising_more, within_last, within_more}
use Rattle.trick_journal.proofs.Sessions.{among_after, highest_more, joined_more}
use Rattle.trick_journal.specs.Fronts.{AreRight, joins_with, rises_with}
use Rattle.trick_journal.specs.Rows.{finish, is_row, note}
use Rattle.trick_journal.specs.Rules.{Keeps, Meets, ends_above, follows, highest_in, is_live, joins_after, last_as, last_in, live_in, live_with}
use Rattle.trick_journal.specs.declared.rows.Last.TheVariants as last
use Rattle.trick_journal.specs.declared.rows.Rows.{Rows}
use Rattle.trick_model.specs.Journal.{Noted, are_in_range, are_joined, are_rising, are_within, is_entry}
use Rattle.trick_model.specs.Time.{last_turn}
use Rattle.trick_model.specs.declared.entry.Entry.{Entry}
use Rattle.trick_model.specs.declared.entry.Entry.TheVariants.{Join, Said, Leave, Publish}

true_and : (a b : Bool) → a ≡ true → (a && b) ≡ b
true_and a b h = ap (λ (k : Bool). k && b) h

module _ (rows : Rows) (keeps : Keeps rows) where
  pub rises : (e : Noted) → (nat_le rows.from e.0 && follows rows.last e) ≡ rises_with rows.from rows.entries (note e)
  rises e =
      let more = rising_more rows.entries e ∙ true_and _ _ keeps.right.rising in
      ap (λ (b : Bool). nat_le rows.from e.0 && b) (ap (λ l. follows l e) keeps.last ∙ sym more)

  pub ends : (turn : ℕ) → (nat_le rows.from turn && ends_above rows.last turn) ≡ rises_with rows.from rows.entries (finish turn)
  ends turn =
      ap (λ (b : Bool). nat_le rows.from turn && b) (ap (λ l. ends_above l turn) keeps.last
      ∙ sym (within_last rows.from turn rows.entries (last_turn + 1) keeps.right.rising keeps.right.not_early))

  pub joins : (e : Noted) → joins_after rows.highest (contains nat_cmp rows.live) e.1 ≡ joins_with rows.entries (note e)
  joins e =
      go e.1 ∙ ap (λ h. joins_after h (is_live rows.entries) e.1) keeps.highest
      ∙ sym (joined_more 0 [] rows.entries e ∙ true_and _ _ keeps.right.joined)
    where
      go : (entry : Entry) → joins_after rows.highest (contains nat_cmp rows.live) entry ≡ joins_after rows.highest (is_live rows.entries) entry
      go (Join session) = refl
      go (Said session line) = keeps.live session
      go (Leave session cause) = keeps.live session
      go (Publish thread) = refl

live_same : (old new : ℕ → Bool) → ((s : ℕ) → old s ≡ new s) → (entry : Entry) (s : ℕ) → live_with old entry s ≡ live_with new entry s
live_same old new h (Join session) s = ap (λ (b : Bool). (session == s) || b) (h s)
live_same old new h (Said session line) s = h s
live_same old new h (Leave session cause) s = ap (λ (b : Bool). if session == s then false else b) (h s)
live_same old new h (Publish thread) s = h s

right_more : (from : ℕ) (es : List Noted) (e : Noted) → AreRight from es → is_row (note e) ≡ true
    → rises_with from es (note e) ≡ true → joins_with es (note e) ≡ true → AreRight from (es ++ e ∷ [])
right_more from es e right range rising joined =
    let low : nat_lt e.0 (last_turn + 1) ≡ true = let le = (and_parts (nat_le e.0 last_turn) (is_entry e.1) range).0 in grind (arith, nat_tests) in
    record {
      in_range = range_more es e ∙ and_from (are_in_range es) (nat_le e.0 last_turn && is_entry e.1) right.in_range range;
      rising = (and_parts (nat_le from e.0) (are_rising (es ++ e ∷ [])) rising).1;
      not_early = within_more from (last_turn + 1) es e ∙ and_from (are_within from (last_turn + 1) es) (nat_le from e.0 && nat_lt e.0 (last_turn + 1)) right.not_early
          (and_from (nat_le from e.0) (nat_lt e.0 (last_turn + 1)) (and_parts (nat_le from e.0) (are_rising (es ++ e ∷ [])) rising).0 low);
      joined = joined;
    }

-- the rows after an entry that was met and added
pub keeps_on : (old met new : Rows) (e : Noted) → Keeps old → Meets old met e → is_row (note e) ≡ true
    → rises_with old.from old.entries (note e) ≡ true → joins_with old.entries (note e) ≡ true
    → new.from ≡ met.from → new.last ≡ met.last → new.highest ≡ met.highest → new.live ≡ met.live
    → new.entries ≡ met.entries ++ e ∷ [] → Keeps new
keeps_on old met new e keeps meets range rising joined from ended highest live entries =
    let all : new.entries ≡ old.entries ++ e ∷ [] = entries ∙ ap (λ (es : List Noted). es ++ e ∷ []) meets.entries in
    let begins : new.from ≡ old.from = from ∙ meets.from in
    record {
      right = subst (λ (es : List Noted). AreRight new.from es) (sym all)
          (subst (λ (n : ℕ). AreRight n (old.entries ++ e ∷ [])) (sym begins) (right_more old.from old.entries e keeps.right range rising joined));
      last = ended ∙ meets.last ∙ sym (last_more last.Nothing old.entries e) ∙ ap (last_in last.Nothing) (sym all);
      highest = highest ∙ meets.highest ∙ ap (λ h. highest_in h (e ∷ [])) keeps.highest
          ∙ sym (highest_more 0 old.entries e) ∙ ap (highest_in 0) (sym all);
      live = λ s. ap (λ l. contains nat_cmp l s) live ∙ meets.live s
          ∙ live_same (contains nat_cmp old.live) (is_live old.entries) keeps.live e.1 s
          ∙ sym (among_after old.entries e s) ∙ ap (λ es. is_live es s) (sym all);
    }
