-- What a run writes first and last.
use Rattle.std.proofs.Common.{◌≡◌, ◌∙◌, ℕ, zero, suc, drop, length, List, [], ◌∷◌, ◌++◌, Bool, true, false, not, ◌&&◌, cond, Some, unwrap_or, ap, refl, sym}
use Rattle.std.proofs.lemmas.List.{append_cancel_right}
use Rattle.std.proofs.lemmas.Slice.Eq.{bytes_eq-Decides}
use Rattle.std.specs.List.{list_any}
use Rattle.std.specs.Prelude.{◌||◌, All, IsTrue, Option, codes, flat_map}
use Rattle.std.specs.Str.{bytes_eq}
use Rattle.trick_base.proofs.FileLemmas.{name_itself, names_differ}
use Rattle.trick_base.proofs.Numbers.{less_before, none_below_zero}
use Rattle.trick_base.specs.Content.{content, same_name}
use Rattle.trick_base.specs.Files.{Write}
use Rattle.trick_model.specs.Files.{end_writes, journal_name, start_writes}
use Rattle.trick_model.specs.Journal.{first_lines, last_line}
use Rattle.trick_model.specs.Plan.{Plan}
use Rattle.trick_model.specs.Records.{header, log_name}
use Rattle.trick_model.specs.State.{State}
use Rattle.trick_model.specs.Turn.{file_writes}
use Rattle.trick_model.specs.Valid.{all_differ, group_names}
use Rattle.trick_model.specs.declared.group.Group.{Group}
use Rattle.trick_model_remainder.proofs.Turns.{IsNoCheckpoint}

-- ---- names

pub log_is_no_checkpoint : (group : Group) → IsNoCheckpoint (log_name group)
log_is_no_checkpoint group turn = refl

pub journal_is_no_checkpoint : IsNoCheckpoint journal_name
journal_is_no_checkpoint turn = refl

pub log_is_no_journal : (group : Group) → same_name (log_name group) journal_name ≡ false
log_is_no_journal group = refl

log_of_name : (a b : List ℕ) → codes "log_" ++ a ++ codes ".csv" ≡ codes "log_" ++ b ++ codes ".csv" → a ≡ b
log_of_name a b e = append_cancel_right a b (codes ".csv") (ap (drop 4) e)

logs_differ : (one other : Group) → bytes_eq one.name other.name ≡ false → same_name (log_name one) (log_name other) ≡ false
logs_differ one other apart =
    names_differ (log_name one) (log_name other)
    (λ same. let e = (bytes_eq-Decides one.name other.name).1 (log_of_name one.name other.name same) in let no = sym e ∙ apart in cc no)

-- ---- the start

-- a file that is created and written under another name
other_file : (t : Bool) (bytes : List ℕ) (before : Option (List ℕ)) → t ≡ false
    → cond t (Some (unwrap_or (cond t (Some []) before) [] ++ bytes)) (cond t (Some []) before) ≡ before
other_file t bytes before e = ap (λ c. cond c (Some (unwrap_or (cond c (Some []) before) [] ++ bytes)) (cond c (Some []) before)) e

-- a file that is created and written under its own name
own_file : (t : Bool) (bytes : List ℕ) (before : Option (List ℕ)) → t ≡ true
    → cond t (Some (unwrap_or (cond t (Some []) before) [] ++ bytes)) (cond t (Some []) before) ≡ Some bytes
own_file t bytes before e = ap (λ c. cond c (Some (unwrap_or (cond c (Some []) before) [] ++ bytes)) (cond c (Some []) before)) e

-- the logs with their headers
abbrev log_writes : Plan → List Group → List Write
log_writes p groups = flat_map (λ (group : Group). file_writes (log_name group) (header p group)) groups

either_false : (a b : Bool) → not (a || b) ≡ true → (a ≡ false) × (not b ≡ true)
either_false true b h = cc h
either_false false b h = (refl, h)

both_true : (a b : Bool) → a && b ≡ true → (a ≡ true) × (b ≡ true)
both_true true b h = (refl, h)
both_true false b h = cc h

-- logs of other names leave a file as it is
others_leave : (p : Plan) (group : Group) (groups : List Group) (before : Option (List ℕ))
    → not (list_any (bytes_eq group.name) (group_names groups)) ≡ true → content (log_name group) (log_writes p groups) before ≡ before
others_leave p group [] before none = refl
others_leave p group (other ∷ groups) before none =
    let facts = either_false (bytes_eq group.name other.name) (list_any (bytes_eq group.name) (group_names groups)) none in
    ap (content (log_name group) (log_writes p groups))
    (other_file (same_name (log_name group) (log_name other)) (header p other) before (logs_differ group other facts.0))
    ∙ others_leave p group groups before facts.1

-- each log begins with its header
abbrev pub IsBegun : Plan → List Write → Group → Type 0
IsBegun p writes group = (before : Option (List ℕ)) → content (log_name group) writes before ≡ Some (header p group)

all_later : (P Q : Group → Type 0) → ((group : Group) → P group → Q group) → (groups : List Group) → All P groups → All Q groups
all_later P Q step groups all k d less = step _ (all k d less)

logs_begin : (p : Plan) (groups : List Group) → all_differ (group_names groups) ≡ true → All (IsBegun p (log_writes p groups)) groups
logs_begin p [] apart k d less before = absurd (none_below_zero k less)
logs_begin p (group ∷ groups) apart zero d less before =
    let facts = both_true (not (list_any (bytes_eq group.name) (group_names groups))) (all_differ (group_names groups)) apart in
    ap (content (log_name group) (log_writes p groups))
    (own_file (same_name (log_name group) (log_name group)) (header p group) before (name_itself (log_name group)))
    ∙ others_leave p group groups (Some (header p group)) facts.0
logs_begin p (group ∷ groups) apart (suc k) d less before =
    let facts = both_true (not (list_any (bytes_eq group.name) (group_names groups))) (all_differ (group_names groups)) apart in
    logs_begin p groups facts.1 k d (less_before k (length groups) less) _

pub starts_logs : (p : Plan) (turn : ℕ) → IsTrue (all_differ (group_names p.groups)) → All (IsBegun p (start_writes p turn)) p.groups
starts_logs p turn apart =
    all_later (IsBegun p (log_writes p p.groups)) (IsBegun p (start_writes p turn)) (λ group begins before. begins _) p.groups
    (logs_begin p p.groups apart)

logs_leave : (p : Plan) (groups : List Group) (before : Option (List ℕ)) → content journal_name (log_writes p groups) before ≡ before
logs_leave p [] before = refl
logs_leave p (group ∷ groups) before = logs_leave p groups before

pub starts_journal : (p : Plan) (turn : ℕ) (before : Option (List ℕ)) → content journal_name (start_writes p turn) before ≡ Some (first_lines turn)
starts_journal p turn before = logs_leave p p.groups (Some (first_lines turn))

-- ---- the end

pub end_log : (p : Plan) (s : State) (group : Group) (held : List ℕ) → content (log_name group) (end_writes p s) (Some held) ≡ Some held
end_log p s group held = refl

pub end_journal : (p : Plan) (s : State) (held : List ℕ) → content journal_name (end_writes p s) (Some held) ≡ Some (held ++ last_line s.turn)
end_journal p s held = refl

pub end_final : (p : Plan) (s : State) (before later : Option (List ℕ))
    → content (codes "final.chk") (end_writes p s) before ≡ content (codes "final.chk") (end_writes p s) later
end_final p s before later = refl

pub end_faults : (p : Plan) (s : State) (before later : Option (List ℕ))
    → content (codes "faults.txt") (end_writes p s) before ≡ content (codes "faults.txt") (end_writes p s) later
end_faults p s before later = refl
