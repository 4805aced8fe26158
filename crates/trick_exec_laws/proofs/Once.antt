-- A run makes its files once at most.
use Rattle.std.proofs.Common.{◌≡◌, ◌∙◌, ℕ, zero, suc, ◌+◌, ◌<◌, ◌≤◌, List, [], ◌∷◌, ◌++◌, Bool, true, false, not, ap, append-nil, append_assoc, arith, drop, length, refl, subst, sym}
use Rattle.std.proofs.lemmas.Bool.{and_parts}
use Rattle.std.proofs.lemmas.Bool.Decides.{nat_tests}
use Rattle.std.proofs.lemmas.Fmt.{decimal_injective}
use Rattle.std.proofs.lemmas.List.{append_cancel_right}
use Rattle.std.proofs.lemmas.Slice.Eq.{bytes_eq-Decides}
use Rattle.std.specs.List.{list_any, slice_index_or}
use Rattle.std.specs.Prelude.{◌||◌, ◌^◌, All, codes, decimal, flat_map, min}
use Rattle.std.specs.Str.{bytes_eq}
use Rattle.trick_base.proofs.FileLemmas.{name_itself, names_differ, names_equal}
use Rattle.trick_base.proofs.Numbers.{less_before, none_below_zero}
use Rattle.trick_base.specs.Content.{IsKept, IsTidy, same_name}
use Rattle.trick_base.specs.Files.{Append, Create, Write}
use Rattle.trick_model.specs.Files.{end_writes, journal_name, run_writes, start_writes, turn_writes, turns_writes}
use Rattle.trick_model.specs.Plan.{Plan}
use Rattle.trick_model.specs.PlanOf.{plan_of}
use Rattle.trick_model.specs.Records.{header, log_name}
use Rattle.trick_model.specs.Run.{after_turns, final, opened}
use Rattle.trick_model.specs.State.{State, World}
use Rattle.trick_model.specs.Time.{last_turn}
use Rattle.trick_model.specs.Turn.{begun, checkpoint_jobs, checkpoint_name, checkpoint_writes, counted, file_writes, framed, heard, rounds, runs, turn}
use Rattle.trick_model.specs.Valid.{all_differ, group_names}
use Rattle.trick_model.specs.declared.entry.Entry.{Entry}
use Rattle.trick_model.specs.declared.group.Group.{Group}
use Rattle.trick_model.specs.declared.plan.Plan.{Plan as PlanValue}
use Rattle.trick_model_remainder.proofs.Contents.{kept_append}
use Rattle.trick_model_remainder.proofs.Ends.{log_is_no_checkpoint}
use Rattle.trick_model_remainder.proofs.Turns.{turns_kept}
use Rattle.trick_exec_laws.proofs.Fronts.{NoneOf, none_append, none_kept}
use Rattle.trick_exec_laws.proofs.Notes.{notes, notes_none, turn_is}
use Rattle.trick_exec_laws.proofs.Others.{IsNoLog, framed_none, headers_none, rest_none}
use Rattle.trick_exec_laws.specs.Once.{MakesOnce}
use Rattle.trick_exec_meaning.proofs.Counts.{turn_counts}

-- ---- writes of other names

clash : (b : Bool) → b ≡ true → b ≡ false → ⊥
clash true e f = cc f
clash false e f = cc e

pub tidy_behind : (name : List ℕ) (early late : List Write) → NoneOf name early → IsTidy name late → IsTidy name (early ++ late)
tidy_behind name [] late none tidy = tidy
tidy_behind name (Create other ∷ early) late none tidy =
    (λ same. absurd (clash (same_name name other) same none.0), λ differs. tidy_behind name early late none.1 tidy)
tidy_behind name (Append other bytes ∷ early) late none tidy = (none.0, tidy_behind name early late none.1 tidy)

tidy_none : (name : List ℕ) (writes : List Write) → NoneOf name writes → IsTidy name writes
tidy_none name writes none = subst (IsTidy name) (append-nil writes) (tidy_behind name writes [] none tt)

start_none : (name : List ℕ) → same_name name journal_name ≡ false → IsNoLog name → (p : Plan) (number : ℕ) → NoneOf name (start_writes p number)
start_none name other no_log p number = (other, (other, headers_none name no_log p p.groups))

turn_none : (name : List ℕ) → same_name name journal_name ≡ false → IsNoLog name → (p : Plan) (w : World) (entries : List Entry)
    → same_name name (checkpoint_name (turn p w entries).world.state.turn) ≡ false → NoneOf name (turn_writes w.state.turn (turn p w entries))
turn_none name other no_log p w entries no_checkpoint =
    subst (NoneOf name) (sym (turn_is p w entries))
    (none_append name (notes w.state.turn (turn p w entries).noted) (turn p w entries).writes
    (notes_none name w.state.turn (turn p w entries).noted other) (rest_none name no_log p w entries no_checkpoint))

turns_none : (name : List ℕ) → same_name name journal_name ≡ false → IsNoLog name → ((number : ℕ) → same_name name (checkpoint_name number) ≡ false)
    → (p : Plan) (w : World) (lists : List (List Entry)) → NoneOf name (turns_writes p w lists)
turns_none name other no_log no_checkpoint p w [] = tt
turns_none name other no_log no_checkpoint p w (entries ∷ lists) =
    none_append name (turn_writes w.state.turn (turn p w entries)) (turns_writes p (turn p w entries).world lists)
    (turn_none name other no_log p w entries (no_checkpoint (turn p w entries).world.state.turn))
    (turns_none name other no_log no_checkpoint p (turn p w entries).world lists)

-- ---- the last files

final_tidy : (p : Plan) (s : State) → IsTidy (codes "final.chk") (end_writes p s)
final_tidy p s = (λ same. (refl, tt), λ differs. absurd (cc differs))

faults_tidy : (p : Plan) (s : State) → IsTidy (codes "faults.txt") (end_writes p s)
faults_tidy p s = (λ same. absurd (cc same), λ differs. (refl, (λ same. tt, λ other. absurd (cc other))))

last_tidy : (name : List ℕ) → same_name name journal_name ≡ false → IsNoLog name → ((number : ℕ) → same_name name (checkpoint_name number) ≡ false)
    → (p : Plan) (s : State) (lists : List (List Entry)) → IsTidy name (end_writes p (final p s lists)) → IsTidy name (run_writes p s lists)
last_tidy name other no_log no_checkpoint p s lists tidy =
    tidy_behind name (start_writes p s.turn ++ turns_writes p (opened s) lists) (end_writes p (final p s lists))
    (none_append name (start_writes p s.turn) (turns_writes p (opened s) lists) (start_none name other no_log p s.turn)
    (turns_none name other no_log no_checkpoint p (opened s) lists)) tidy

-- ---- logs

abbrev headers : Plan → List Group → List Write
headers p groups = flat_map (λ (group : Group). file_writes (log_name group) (header p group)) groups

either_false : (a b : Bool) → not (a || b) ≡ true → (a ≡ false) × (not b ≡ true)
either_false true b h = cc h
either_false false b h = (refl, h)

log_of_name : (a b : List ℕ) → codes "log_" ++ a ++ codes ".csv" ≡ codes "log_" ++ b ++ codes ".csv" → a ≡ b
log_of_name a b e = append_cancel_right a b (codes ".csv") (ap (drop 4) e)

logs_differ : (one other : Group) → bytes_eq one.name other.name ≡ false → same_name (log_name one) (log_name other) ≡ false
logs_differ one other apart =
    names_differ (log_name one) (log_name other)
    (λ same. clash (bytes_eq one.name other.name) ((bytes_eq-Decides one.name other.name).1 (log_of_name one.name other.name same)) apart)

-- logs of other names are others
others_kept : (p : Plan) (group : Group) (groups : List Group) → not (list_any (bytes_eq group.name) (group_names groups)) ≡ true
    → IsKept (log_name group) (headers p groups)
others_kept p group [] none = tt
others_kept p group (other ∷ groups) none =
    let parts = either_false (bytes_eq group.name other.name) (list_any (bytes_eq group.name) (group_names groups)) none in
    (logs_differ group other parts.0, others_kept p group groups parts.1)

other_log : (group : Group) (groups : List Group) → not (list_any (bytes_eq group.name) (group_names groups)) ≡ true
    → (k : ℕ) (d : Group) → k < length groups → same_name (log_name (slice_index_or groups k d)) (log_name group) ≡ false
other_log group [] none k d less = absurd (none_below_zero k less)
other_log group (other ∷ groups) none zero d less =
    let apart = logs_differ group other (either_false (bytes_eq group.name other.name) (list_any (bytes_eq group.name) (group_names groups)) none).0 in
    names_differ (log_name other) (log_name group)
    (λ same. clash (same_name (log_name group) (log_name other))
    (subst (λ (name : List ℕ). same_name (log_name group) name ≡ true) (sym same) (name_itself (log_name group))) apart)
other_log group (other ∷ groups) none (suc k) d less =
    other_log group groups (either_false (bytes_eq group.name other.name) (list_any (bytes_eq group.name) (group_names groups)) none).1 k d
    (less_before k (length groups) less)

logs_tidy : (p : Plan) (groups : List Group) (rest : List Write) → all_differ (group_names groups) ≡ true → ((group : Group) → IsKept (log_name group) rest)
    → All (λ (group : Group). IsTidy (log_name group) (headers p groups ++ rest)) groups
logs_tidy p [] rest apart kept k d less = absurd (none_below_zero k less)
logs_tidy p (group ∷ groups) rest apart kept zero d less =
    let parts = and_parts (not (list_any (bytes_eq group.name) (group_names groups))) (all_differ (group_names groups)) apart in
    let name = log_name group in (
      λ same. kept_append name (headers p groups) rest (others_kept p group groups parts.0) (kept group),
      λ differs. absurd (clash (same_name name name) (name_itself name) differs),
    )
logs_tidy p (group ∷ groups) rest apart kept (suc k) d less =
    let parts = and_parts (not (list_any (bytes_eq group.name) (group_names groups))) (all_differ (group_names groups)) apart in
    let under = less_before k (length groups) less in
    let name = log_name (slice_index_or groups k d) in
    let other : same_name name (log_name group) ≡ false = other_log group groups parts.0 k d under in (
      λ same. absurd (clash (same_name name (log_name group)) same other),
      λ differs. (other, logs_tidy p groups rest parts.1 kept k d under),
    )

all_later : (P Q : Group → Type 0) → ((group : Group) → P group → Q group) → (groups : List Group) → All P groups → All Q groups
all_later P Q step groups all k d less = step _ (all k d less)

-- after the headers no log is made anew
behind_kept : (p : Plan) (s : State) (lists : List (List Entry)) (group : Group)
    → IsKept (log_name group) (turns_writes p (opened s) lists ++ end_writes p (final p s lists))
behind_kept p s lists group =
    kept_append (log_name group) (turns_writes p (opened s) lists) (end_writes p (final p s lists))
    (turns_kept (log_name group) p (opened s) lists (log_is_no_checkpoint group)) (refl, (refl, tt))

run_logs : (p : Plan) (s : State) (lists : List (List Entry)) → all_differ (group_names p.groups) ≡ true
    → All (λ (group : Group). IsTidy (log_name group) (run_writes p s lists)) p.groups
run_logs p s lists apart =
    let rest = turns_writes p (opened s) lists ++ end_writes p (final p s lists) in
    all_later (λ (group : Group). IsTidy (log_name group) (headers p p.groups ++ rest)) (λ (group : Group). IsTidy (log_name group) (run_writes p s lists))
    (λ group tidy. (
      λ same. absurd (cc same),
      λ differs. (
        refl,
        subst (IsTidy (log_name group)) (sym (append_assoc (headers p p.groups) (turns_writes p (opened s) lists) (end_writes p (final p s lists)))) tidy,
      ),
    ))
    p.groups (logs_tidy p p.groups rest apart (behind_kept p s lists))

-- ---- checkpoints

number_of_name : (a b : List ℕ) → codes "chkpnt_" ++ a ++ codes ".chk" ≡ codes "chkpnt_" ++ b ++ codes ".chk" → a ≡ b
number_of_name a b e = append_cancel_right a b (codes ".chk") (ap (drop 7) e)

in_range : (n : ℕ) → n < last_turn → n < 2 ^ 64
in_range n low = omega (arith, low)

same_number : (n number : ℕ) → n < last_turn → number < last_turn → same_name (checkpoint_name n) (checkpoint_name number) ≡ true → n ≡ number
same_number n number low under same =
    decimal_injective n number (in_range n low) (in_range number under)
    (number_of_name (decimal n) (decimal number) (names_equal (checkpoint_name n) (checkpoint_name number) same))

other_number : (n number : ℕ) → n < last_turn → number < last_turn → n < number → same_name (checkpoint_name n) (checkpoint_name number) ≡ false
other_number n number low under less = by (same_name (checkpoint_name n) (checkpoint_name number)) refl
  where
    by : (b : Bool) → same_name (checkpoint_name n) (checkpoint_name number) ≡ b → same_name (checkpoint_name n) (checkpoint_name number) ≡ false
    by true e = let same : n ≡ number = same_number n number low under e in absurd (omega (arith, same, less))
    by false e = e

-- where turns have not come to the end of the count, each counts one more
below_end : (p : Plan) (w : World) (lists : List (List Entry)) → (after_turns p w lists).state.turn < last_turn → w.state.turn < last_turn
below_end p w [] low = low
below_end p w (entries ∷ lists) low =
    let next : (turn p w entries).world.state.turn < last_turn = below_end p (turn p w entries).world lists low in
    before w.state.turn (turn p w entries).world.state.turn (turn_counts p w entries) next
  where
    before : (n m : ℕ) → m ≡ min (n + 1) last_turn → m < last_turn → n < last_turn
    before n m is less = grind (arith, nat_tests, is, less)

one_more : (p : Plan) (w : World) (entries : List Entry) → (turn p w entries).world.state.turn < last_turn
    → (turn p w entries).world.state.turn ≡ w.state.turn + 1
one_more p w entries low = before w.state.turn (turn p w entries).world.state.turn (turn_counts p w entries) low
  where
    before : (n m : ℕ) → m ≡ min (n + 1) last_turn → m < last_turn → m ≡ n + 1
    before n m is less = grind (arith, nat_tests, is, less)

-- no later turn writes a checkpoint of this number
later_none : (n : ℕ) → n < last_turn → (p : Plan) (w : World) (lists : List (List Entry)) → n ≤ w.state.turn
    → (after_turns p w lists).state.turn < last_turn → NoneOf (checkpoint_name n) (turns_writes p w lists)
later_none n low p w [] up end = tt
later_none n low p w (entries ∷ lists) up end =
    let name = checkpoint_name n in
    let next = (turn p w entries).world in
    let under : next.state.turn < last_turn = below_end p next lists end in
    let count : next.state.turn ≡ w.state.turn + 1 = one_more p w entries under in
    let more : n < next.state.turn = omega (arith, up, count) in
    let least : n ≤ next.state.turn = omega (arith, more) in
    none_append name (turn_writes w.state.turn (turn p w entries)) (turns_writes p next lists)
    (turn_none name refl (λ group. refl) p w entries (other_number n next.state.turn low under more))
    (later_none n low p next lists least end)

-- a checkpoint, before what is of other names
checkpoint_tidy : (name : List ℕ) (p : Plan) (b : Bool) (s : State) (rest : List Write) → same_name name (checkpoint_name s.turn) ≡ true → NoneOf name rest
    → IsTidy name (checkpoint_writes p b s ++ rest)
checkpoint_tidy name p false s rest is none = tidy_none name rest none
checkpoint_tidy name p true s rest is none =
    (λ same. none_kept name rest none, λ differs. absurd (clash (same_name name (checkpoint_name s.turn)) is differs))

-- the turn that writes it
turn_tidy : (name : List ℕ) → same_name name journal_name ≡ false → IsNoLog name → (p : Plan) (w : World) (entries : List Entry) (rest : List Write)
    → same_name name (checkpoint_name (turn p w entries).world.state.turn) ≡ true → NoneOf name rest
    → IsTidy name (turn_writes w.state.turn (turn p w entries) ++ rest)
turn_tidy name other no_log p w entries rest is none =
    let a = (heard p entries (begun w)).asking in
    let ran = framed p (runs a.state) entries a in
    let asked = ran.asking in
    let s = counted (rounds p (runs a.state) (checkpoint_jobs p asked.checkpoint asked.state)) in
    let first = notes w.state.turn (turn p w entries).noted in
    let last : List Write = checkpoint_writes p asked.checkpoint s in
    let all : turn_writes w.state.turn (turn p w entries) ++ rest ≡ first ++ (ran.writes ++ (last ++ rest)) =
    ap (λ (ws : List Write). ws ++ rest) (turn_is p w entries) ∙ append_assoc first (ran.writes ++ last) rest
    ∙ ap (λ (ws : List Write). first ++ ws) (append_assoc ran.writes last rest) in
    subst (IsTidy name) (sym all)
    (tidy_behind name first (ran.writes ++ (last ++ rest)) (notes_none name w.state.turn (turn p w entries).noted other)
    (tidy_behind name ran.writes (last ++ rest) (framed_none name no_log p (runs a.state) entries a)
    (checkpoint_tidy name p asked.checkpoint s rest is none)))

turns_tidy : (n : ℕ) → n < last_turn → (p : Plan) (w : World) (lists : List (List Entry)) (rest : List Write) → (after_turns p w lists).state.turn < last_turn
    → NoneOf (checkpoint_name n) rest → IsTidy (checkpoint_name n) (turns_writes p w lists ++ rest)
turns_tidy n low p w [] rest end none = tidy_none (checkpoint_name n) rest none
turns_tidy n low p w (entries ∷ lists) rest end none =
    let next = (turn p w entries).world in
    let first = turn_writes w.state.turn (turn p w entries) in
    subst (IsTidy (checkpoint_name n)) (sym (append_assoc first (turns_writes p next lists) rest))
    (by (turns_tidy n low p next lists rest end none) (same_name (checkpoint_name n) (checkpoint_name next.state.turn)) refl)
  where
    under : (turn p w entries).world.state.turn < last_turn
    under = below_end p (turn p w entries).world lists end

    by : IsTidy (checkpoint_name n) (turns_writes p (turn p w entries).world lists ++ rest)
        → (b : Bool) → same_name (checkpoint_name n) (checkpoint_name (turn p w entries).world.state.turn) ≡ b
        → IsTidy (checkpoint_name n) (turn_writes w.state.turn (turn p w entries) ++ (turns_writes p (turn p w entries).world lists ++ rest))
    by later false e =
        tidy_behind (checkpoint_name n) (turn_writes w.state.turn (turn p w entries)) (turns_writes p (turn p w entries).world lists ++ rest)
        (turn_none (checkpoint_name n) refl (λ group. refl) p w entries e) later
    by later true e =
        let is : n ≡ (turn p w entries).world.state.turn = same_number n (turn p w entries).world.state.turn low under e in
        let least : n ≤ (turn p w entries).world.state.turn = omega (arith, is) in
        turn_tidy (checkpoint_name n) refl (λ group. refl) p w entries (turns_writes p (turn p w entries).world lists ++ rest) e
        (none_append (checkpoint_name n) (turns_writes p (turn p w entries).world lists) rest
        (later_none n low p (turn p w entries).world lists least end) none)

run_checkpoints : (p : Plan) (s : State) (lists : List (List Entry)) → (after_turns p (opened s) lists).state.turn < last_turn
    → (n : ℕ) → n < last_turn → IsTidy (checkpoint_name n) (run_writes p s lists)
run_checkpoints p s lists end n low =
    let name = checkpoint_name n in
    let first = start_writes p s.turn in
    let turns = turns_writes p (opened s) lists in
    let last = end_writes p (final p s lists) in
    subst (IsTidy name) (sym (append_assoc first turns last))
    (tidy_behind name first (turns ++ last) (start_none name refl (λ group. refl) p s.turn)
    (turns_tidy n low p (opened s) lists last end (refl, (refl, (refl, (refl, (refl, tt)))))))

pub makes_once : (plan : PlanValue) (s : State) (lists : List (List Entry)) → MakesOnce (plan_of plan) s lists
makes_once plan s lists =
    let p = plan_of plan in
    record {
      logs = run_logs p s lists plan.groups_differ;
      last = last_tidy (codes "final.chk") refl (λ group. refl) (λ number. refl) p s lists (final_tidy p (final p s lists));
      faults = last_tidy (codes "faults.txt") refl (λ group. refl) (λ number. refl) p s lists (faults_tidy p (final p s lists));
      checkpoints = run_checkpoints p s lists;
    }
