use Rattle.std.proofs.Common.{◌≡◌, ◌+◌, ◌-◌, ◌≤◌, length, arith, refl, sym, ap, ◌∙◌, subst}
use Rattle.trick_text.specs.declared.piece.Piece.TheVariants.{Blank, Token}
use Rattle.trick_text.specs.Pieces.{front}
use Rattle.trick_text.specs.Tokens.{AreTokens, nothing}
use Rattle.trick_text.proofs.Walk.{step, blank_more, token_more}
use Rattle.trick_text.proofs.scan.cut.Goals as goal
use Rattle.trick_text.proofs.scan.cut.Goals.{in-Blank, in-Token+in_ok-push-in-Token}

pub loop-rest-init : goal.loop-rest-init
loop-rest-init c = record {
  short = omega arith;
  place = omega arith;
  here = refl;
  lines = omega arith;
  line = refl;
  so_far = rw c.new-tokens.ensures.items nothing;
}

pub loop-rest-preserved : goal.loop-rest-preserved
loop-rest-preserved c =
    let l = c.loop-rest in
    let text = c.args.text.now in
    let style = c.args.style in
    let n = c.match-front.len in
    let cut = c.split_at.ensures in
    let le : n ≤ length l.rest.now = omega (arith, cut.back_len) in
    let s = step text l.rest.now l.at l.line n c.split_at.result.0.now c.split_at.result.1.now c.line_ends-line.result l.invariant.place l.invariant.here l.invariant.lines l.invariant.line le cut.front cut.back cut.front_len c.line_ends-line.ensures in
    record {
      short = omega arith;
      place = s.place;
      here = s.here;
      lines = s.lines;
      line = s.line_is;
      so_far = elim c.match-front.branch [
        | in-Blank w ↦
            let is = ap (front style) (sym l.invariant.here) ∙ sym w.in-Blank.ensures.is ∙ ap Blank (sym w.len-is) in
            subst (λ v. AreTokens style text 0 v.items (l.at + n)) (sym w.tokens-is) (blank_more style text l.tokens.items 0 l.at n l.invariant.so_far is)
        | in-Token+in_ok-push-in-Token w ↦
            let m = w.in-Token.n in
            let width : (l.at + m) - l.at ≡ m = omega arith in
            let is = ap (front style) (sym l.invariant.here) ∙ sym w.in-Token.ensures.is ∙ ap (Token w.in-Token.kind) (sym width) in
            let inside : l.at + m ≤ length text = omega (arith, w.in-Token.ensures.within.1) in
            let more = token_more style text l.tokens.items 0 _ l.invariant.so_far (record { longest = is; forward = omega (arith, w.in-Token.ensures.within.0); inside = inside; line = l.invariant.line }) in
            let items = ap (λ v. v.items) w.tokens-is ∙ w.in_ok-push-in-Token.ensures.items in
            let at_end : l.at + m ≡ l.at + n = ap (λ k. l.at + k) (sym w.len-is) in
            subst (λ ts. AreTokens style text 0 ts (l.at + n)) (sym items) (subst (AreTokens style text 0 _) at_end more)
      ];
    }
