use Rattle.std.proofs.Common.{◌≡◌, ◌∙◌, ◌&&◌, ◌++◌, ◌∷◌, [], Bool, List, ℕ, ap, append-nil, false, refl, sym, true}
use Rattle.trick_exec_frame.proofs.counted.add_counting.Goals as goal
use Rattle.trick_exec_frame.specs.Adds.{counted_of}
use Rattle.trick_model.specs.Beside.{is_in_flight}
use Rattle.trick_model.specs.Plan.{Plan}
use Rattle.trick_model.specs.PlanOf.{plan_of}
use Rattle.trick_model.specs.State.{State, seen}
use Rattle.trick_model.specs.Turn.{publishes, runs}
use Rattle.trick_model.specs.declared.entry.Entry.{Entry}
use Rattle.trick_model.specs.declared.entry.Entry.TheVariants.{Publish}

-- whether a publication counts
counts : (p : Plan) (s : State) (entry : Entry) (thread : ℕ) → entry ≡ Publish thread
    → publishes p s entry ≡ (runs s && is_in_flight p s thread)
counts p s entry thread is = ap (publishes p s) is

and_false : (b : Bool) → (b && false) ≡ false
and_false true = refl
and_false false = refl

none_added : (p : Plan) (s : State) (entry : Entry) (es : List Entry) → publishes p s entry ≡ false → es ≡ es ++ counted_of p s entry
none_added p s entry es left =
    let none : counted_of p s entry ≡ [] = rw left refl in
    sym (append-nil es) ∙ ap (λ q. es ++ q) (sym none)

one_added : (p : Plan) (s : State) (entry : Entry) (es : List Entry) → publishes p s entry ≡ true → es ++ entry ∷ [] ≡ es ++ counted_of p s entry
one_added p s entry es right =
    let one : counted_of p s entry ≡ entry ∷ [] = rw right refl in
    ap (λ q. es ++ q) (sym one)

pub returns-then-not-runs : goal.returns-then-not-runs
returns-then-not-runs g c = λ plan stations.
    let p = plan_of plan in
    let s = seen (g.M.Cells.numbers) c.args.state.now in
    let rests : runs s ≡ false = sym c.runs.ensures ∙ c.if-not-runs.true in
    none_added p s c.args.entry.now c.args.entries.now.items
    (counts p s c.args.entry.now c.in-Publish.thread c.in-Publish.is ∙ ap (λ b. b && is_in_flight p s c.in-Publish.thread) rests)

pub returns-then-not-is_in_flight : goal.returns-then-not-is_in_flight
returns-then-not-is_in_flight g c = λ plan stations.
    let p = plan_of plan in
    let s = seen (g.M.Cells.numbers) c.args.state.now in
    let lands : is_in_flight p s c.in-Publish.thread ≡ false = sym (c.is_in_flight.ensures plan stations) ∙ c.if-not-is_in_flight.true in
    none_added p s c.args.entry.now c.args.entries.now.items
    (counts p s c.args.entry.now c.in-Publish.thread c.in-Publish.is ∙ ap (λ b. runs s && b) lands ∙ and_false (runs s))

pub returns : goal.returns
returns g c = λ plan stations.
    let p = plan_of plan in
    let s = seen (g.M.Cells.numbers) c.args.state.now in
    let goes : runs s ≡ true = sym c.runs.ensures ∙ c.if-not-runs.false in
    let flies : is_in_flight p s c.in-Publish.thread ≡ true = sym (c.is_in_flight.ensures plan stations) ∙ c.if-not-is_in_flight.false in
    let right : publishes p s c.args.entry.now ≡ true =
    counts p s c.args.entry.now c.in-Publish.thread c.in-Publish.is ∙ ap (λ b. b && is_in_flight p s c.in-Publish.thread) goes ∙ flies in
    c.in_ok-push.ensures.items ∙ ap (λ e. c.args.entries.now.items ++ e ∷ []) (sym c.in-Publish.is) ∙ one_added p s c.args.entry.now c.args.entries.now.items right
