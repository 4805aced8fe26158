-- The journal of two turns, and entries that are none.
use Rattle.std.proofs.Common.{◌≡◌, List, [], ◌∷◌, ◌++◌, refl}
use Rattle.std.specs.Fmt.{digits}
use Rattle.std.specs.Prelude.{codes}
use Rattle.trick_exec_own_journal.proofs.Coming.{KeepRules}
use Rattle.trick_exec_own_journal.proofs.Entries.{lists_same}
use Rattle.trick_exec_own_journal.specs.Rules.{AreRight, decided, noted_from}
use Rattle.trick_model.specs.Journal.{journal_text, lists_from}
use Rattle.trick_model.specs.Plan.{Plan}
use Rattle.trick_model.specs.State.{State}
use Rattle.trick_model.specs.declared.entry.Cause.TheVariants.{HungUp}
use Rattle.trick_model.specs.declared.entry.Entry.{Entry}
use Rattle.trick_model.specs.declared.entry.Entry.TheVariants.{Join, Said, Leave, Publish}
use Rattle.trick_exec_sources.specs.Turns.{no_sessions}

-- a session joins and speaks, two rounds are published, and it leaves
abbrev pub two_turns : List (List Entry)
two_turns = (Join 1 ∷ Said 1 (codes "hello") ∷ Publish 2 ∷ Publish 3 ∷ []) ∷ (Leave 1 HungUp ∷ []) ∷ []

pub two_keep : KeepRules two_turns no_sessions
two_keep = (refl, (refl, tt))

pub two_are_right : (p : Plan) (s : State) → AreRight p s two_turns
two_are_right p s = decided refl

-- the text, from turn 5 on
pub two_text : journal_text 5 (noted_from 5 two_turns) 7 ≡ codes "tricks journal 1\nfrom 5\n5 join 1\n5 cmd 1 hello\n5 publish 2\n" ++ codes "5 publish 3\n6 leave 1 HungUp\nend 7\n"
unfolding digits
two_text = refl

-- read back, turn by turn
pub two_back : lists_from 5 2 (noted_from 5 two_turns) ≡ two_turns
two_back = lists_same 5 two_turns

-- a line of a session that has left is none
pub no_line : KeepRules ((Join 1 ∷ Leave 1 HungUp ∷ Said 1 (codes "hello") ∷ []) ∷ []) no_sessions → ⊥
no_line keep = let never = keep.0 in cc never

-- nor a join of a number that is not above all earlier ones
pub no_join : KeepRules ((Join 2 ∷ []) ∷ (Join 2 ∷ []) ∷ []) no_sessions → ⊥
no_join keep = let never = keep.1.0 in cc never

-- nor a publication in front of one of a smaller thread
pub no_publication : KeepRules ((Publish 3 ∷ Publish 2 ∷ []) ∷ []) no_sessions → ⊥
no_publication keep = let never = keep.0 in cc never
