use Rattle.std.proofs.Common.{◌≡◌, ◌*◌, ap, sym, ◌∙◌}
use Rattle.trick_base.proofs.Capped.{cap_mul}
use Rattle.trick_base.specs.Capped.{capped}
use Rattle.trick_check_cells.specs.Counts.{place_count}
use Rattle.trick_check_cells.proofs.size.place_size.Goals as goal

pub returns-in-Two : goal.returns-in-Two
returns-in-Two c =
    let m = c.in-Two.m in
    let n = c.in-Two.n in
    let one = c.base_size-one.result in
    let total : c.saturating_mul-in-Two-2.result ≡ capped (m * (n * one)) = c.saturating_mul-in-Two-2.ensures ∙ (ap (λ k. capped (m * k)) c.saturating_mul-in-Two.ensures ∙ cap_mul m (n * one)) in
    total ∙ (ap (λ k. capped (m * (n * k))) c.base_size-one.ensures ∙ ap (λ ls. capped (place_count c.args.sizes.now ls c.args.base)) (sym c.in-Two.is))
