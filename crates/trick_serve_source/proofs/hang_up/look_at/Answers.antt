use Rattle.std.proofs.Common.{rules, ◌≡◌, inl, ⊎_elim, ◌∷◌, [], ℕ, true, false, refl}
use Rattle.std.specs.Prelude.{◌||◌, ◌&&◌}
use Rattle.std.proofs.lemmas.Bool.Decides.{eqb_tells}
use Rattle.trick_model.specs.Session.{is_empty}
use Rattle.trick_model.specs.declared.session.Session.{Session}
use Rattle.trick_serve_source.proofs.hang_up.look_at.Goals as goal
use Rattle.trick_serve_hearing.specs.Life.{is_idle}
use Rattle.trick_serve_hearing.specs.Sides.{queues_of}

idle_one : (n : ℕ) (s : Session) → s.number ≡ n → (s.paused || is_empty s.variables) ≡ true → is_idle n (s ∷ []) ≡ true
idle_one n s same idle = ⊎_elim
    (λ e. (λ i. (e.0 i && idle i) || false))
    (λ e. absurd (e.1 same))
    (eqb_tells s.number n)

pub returns-in_ok-reserve : goal.returns-in_ok-reserve
returns-in_ok-reserve c =
    let stays : c.args.seat.now.left ≡ false = search rules in
    let ended : c.args.seat.now.ended ≡ true = search rules in
    let same : c.args.shown.now.number ≡ c.args.session = search rules in
    let idle : (c.args.shown.now.paused || is_empty c.args.shown.now.variables) ≡ true = search rules in
    record {
      looked = inl (
        record {
          here = record { queues = queues_of c.args.seat.now; seated = refl; stays = stays };
          ended = c.args.seat.now.ends ended;
          idle = idle_one c.args.session c.args.shown.now same idle;
          is = c.leave.ensures.side;
          entries = refl;
        },
        search rules,
      );
    }
