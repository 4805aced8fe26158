use Rattle.std.proofs.Common.{◌≡◌, ◌∙◌, ℕ, ◌+◌, ◌*◌, ◌/◌, ◌≤◌, ap, arith, refl, sym}
use Rattle.std.proofs.lemmas.Nat.{div-mul-add}
use Rattle.trick_exec_tic.proofs.frame_tics.frame_end.Goals as goal

-- the frame of a tic that is a multiple of a frame's length
one_more : (n f t : ℕ) → 1 ≤ f → n * f ≡ t → t + f ≡ (t / f + 1) * f
one_more n f t some is =
    let same : t ≡ n * f + 0 = omega (arith, is) in
    let over : t / f ≡ n = ap (λ (x : ℕ). x / f) same ∙ div-mul-add n f 0 (omega (arith, some)) in
    let split : (n + 1) * f ≡ n * f + f = omega arith in
    ap (λ (x : ℕ). x + f) (sym is) ∙ sym split ∙ ap (λ (x : ℕ). (x + 1) * f) (sym over)

pub returns-then-frames_fill-clause-end : goal.returns-then-frames_fill-clause-end
returns-then-frames_fill-clause-end c =
    one_more c.args.turns c.args.plan.now.frame c.args.tic c.args.plan.now.frame_right.some (c.if-frames_fill.ensures refl)
