use Rattle.std.proofs.Common.{rules, ◌≡◌, [], Some, None, Ok, Err, Bool, true, refl, subst}
use Rattle.std.specs.Prelude.{OnOk}
use Rattle.trick_serve_source.proofs.Looking.{empty_from, nothing_owed, went_given, went_lost, went_over}
use Rattle.trick_serve_source.proofs.served.Served.seek.Goals as goal
use Rattle.trick_serve_source.specs.Looks.{Came, HasGiven, HasLost, HasNoMore}
use Rattle.trick_serve_source.specs.Rolls.{view_of}
use Rattle.trick_model.specs.Turn.{is_frozen}

pub returns-else-is_empty-clause-went : goal.returns-else-is_empty-clause-went
returns-else-is_empty-clause-went g c =
    let frozen : c.is_frozen.result ≡ is_frozen c.args.state.now.mode = search rules in
    let came : Came c.args.there.now (is_frozen c.args.state.now.mode) (view_of c.args.self.now) (view_of c.list.new.self) c.list.result =
    subst (λ (b : Bool). Came c.args.there.now b (view_of c.args.self.now) (view_of c.list.new.self) c.list.result) frozen c.list.ensures.came in
    let is : c.list.result ≡ Ok (Some c.in-Ok-Some.list) = search rules in
    let so : HasGiven c.args.there.now (is_frozen c.args.state.now.mode) (view_of c.args.self.now) (view_of c.list.new.self) c.in-Ok-Some.list.items =
    subst (λ r. Came c.args.there.now (is_frozen c.args.state.now.mode) (view_of c.args.self.now) (view_of c.list.new.self) r) is came in
    let kept : c.list.new.self.broke ≡ c.args.self.now.broke = subst (λ r. OnOk r (c.list.new.self.broke ≡ c.args.self.now.broke)) is c.list.ensures.broke in
    record { went = went_given c.args.there.now _ c.args.state.now.mode (view_of c.args.self.now) (view_of c.list.new.self) c.in-Ok-Some.list.items c.if-self.false kept so; same = λ i. (c.list.ensures.coming i, c.list.ensures.gone i) }

pub returns-else-is_empty-clause-pays : goal.returns-else-is_empty-clause-pays
returns-else-is_empty-clause-pays g c =
    let frozen : c.is_frozen.result ≡ is_frozen c.args.state.now.mode = search rules in
    let came : Came c.args.there.now (is_frozen c.args.state.now.mode) (view_of c.args.self.now) (view_of c.list.new.self) c.list.result =
    subst (λ (b : Bool). Came c.args.there.now b (view_of c.args.self.now) (view_of c.list.new.self) c.list.result) frozen c.list.ensures.came in
    let is : c.list.result ≡ Ok (Some c.in-Ok-Some.list) = search rules in
    let so : HasGiven c.args.there.now (is_frozen c.args.state.now.mode) (view_of c.args.self.now) (view_of c.list.new.self) c.in-Ok-Some.list.items =
    subst (λ r. Came c.args.there.now (is_frozen c.args.state.now.mode) (view_of c.args.self.now) (view_of c.list.new.self) r) is came in
    nothing_owed c.args.state.now.mode c.in-Ok-Some.list.items so.rules.only so.filled

pub returns-then-is_empty-clause-went : goal.returns-then-is_empty-clause-went
returns-then-is_empty-clause-went g c =
    let frozen : c.is_frozen.result ≡ is_frozen c.args.state.now.mode = search rules in
    let came : Came c.args.there.now (is_frozen c.args.state.now.mode) (view_of c.args.self.now) (view_of c.list.new.self) c.list.result =
    subst (λ (b : Bool). Came c.args.there.now b (view_of c.args.self.now) (view_of c.list.new.self) c.list.result) frozen c.list.ensures.came in
    let is : c.list.result ≡ Ok (Some c.in-Ok-Some.list) = search rules in
    let so : HasGiven c.args.there.now (is_frozen c.args.state.now.mode) (view_of c.args.self.now) (view_of c.list.new.self) c.in-Ok-Some.list.items =
    subst (λ r. Came c.args.there.now (is_frozen c.args.state.now.mode) (view_of c.args.self.now) (view_of c.list.new.self) r) is came in
    let kept : c.list.new.self.broke ≡ c.args.self.now.broke = subst (λ r. OnOk r (c.list.new.self.broke ≡ c.args.self.now.broke)) is c.list.ensures.broke in
    let none : c.is_empty-is_empty.result ≡ true = search rules in
    let empty : c.in-Ok-Some.list.items ≡ [] = empty_from c.in-Ok-Some.list.items c.in-Ok-Some.list.len c.is_empty-is_empty.result c.in-Ok-Some.list.ok.0 c.is_empty-is_empty.ensures none in
    record {
      went = went_given c.args.there.now _ c.args.state.now.mode (view_of c.args.self.now) (view_of c.list.new.self) [] c.if-self.false kept
          (subst (λ l. HasGiven c.args.there.now (is_frozen c.args.state.now.mode) (view_of c.args.self.now) (view_of c.list.new.self) l) empty so);
      same = λ i. (c.list.ensures.coming i, c.list.ensures.gone i);
    }

pub returns-in-Ok-None-clause-went : goal.returns-in-Ok-None-clause-went
returns-in-Ok-None-clause-went g c =
    let frozen : c.is_frozen.result ≡ is_frozen c.args.state.now.mode = search rules in
    let came : Came c.args.there.now (is_frozen c.args.state.now.mode) (view_of c.args.self.now) (view_of c.list.new.self) c.list.result =
    subst (λ (b : Bool). Came c.args.there.now b (view_of c.args.self.now) (view_of c.list.new.self) c.list.result) frozen c.list.ensures.came in
    let is : c.list.result ≡ Ok None = search rules in
    let so : HasNoMore (is_frozen c.args.state.now.mode) (view_of c.args.self.now) (view_of c.list.new.self) =
    subst (λ r. Came c.args.there.now (is_frozen c.args.state.now.mode) (view_of c.args.self.now) (view_of c.list.new.self) r) is came in
    record { went = went_over c.args.there.now _ c.args.state.now.mode (view_of c.args.self.now) (view_of c.list.new.self) so; same = λ i. (c.list.ensures.coming i, c.list.ensures.gone i) }

pub returns-in-Err-clause-went : goal.returns-in-Err-clause-went
returns-in-Err-clause-went g c =
    let frozen : c.is_frozen.result ≡ is_frozen c.args.state.now.mode = search rules in
    let came : Came c.args.there.now (is_frozen c.args.state.now.mode) (view_of c.args.self.now) (view_of c.list.new.self) c.list.result =
    subst (λ (b : Bool). Came c.args.there.now b (view_of c.args.self.now) (view_of c.list.new.self) c.list.result) frozen c.list.ensures.came in
    let is : c.list.result ≡ Err _ = search rules in
    let so : HasLost c.args.there.now (view_of c.args.self.now) (view_of c.list.new.self) =
    subst (λ r. Came c.args.there.now (is_frozen c.args.state.now.mode) (view_of c.args.self.now) (view_of c.list.new.self) r) is came in
    record { went = went_lost c.args.there.now (view_of c.args.self.now) (view_of c.list.new.self) _ so refl refl refl; same = λ i. (c.list.ensures.coming i, c.list.ensures.gone i) }
