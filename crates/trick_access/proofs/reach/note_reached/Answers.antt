use Rattle.std.proofs.Common.{◌≡◌, ◌+◌, ◌||◌, suc, true, false, length, slice_set, refl, ap, ap₂, sym, subst, ◌∙◌, arith}
use Rattle.std.proofs.Math.Bool.{or-false}
use Rattle.std.proofs.lemmas.List.{length-set, length-replicate}
use Rattle.trick_access.proofs.Ends.{noted_length, noted_reached, or_turn}
use Rattle.trick_access.proofs.Marks.{passed_in}
use Rattle.trick_access.proofs.There.{block_is}
use Rattle.trick_access.proofs.Reached.{marks_length, pass_begin, pass_marked}
use Rattle.trick_access.proofs.reach.note_reached.Goals as goal
use Rattle.trick_lang.specs.Access.{is_in}
use Rattle.trick_lang.specs.Blocks.{block_at}
use Rattle.trick_access.specs.Reached.{IsLast, all_cells, all_runs, block_cells, is_reached, marked_in, no_cells, with_marks}
use Rattle.trick_lang.specs.TreeOf.{code_list, codes_of}
use Rattle.trick_lang.specs.declared.tree.Block.{Block}

pub loop-marked-init : goal.loop-marked-init
loop-marked-init c =
    let f = block_cells c.args.way c.args.base (codes_of c.args.program.now.blocks) in
    let k = c.args.block in
    let m = length c.args.program.now.blocks in
    let one : k + 1 ≡ suc k = omega arith in
    record {
      told = λ q h.
          ap (λ t. is_reached c.args.ends.now q || t)
          (ap (λ j. marked_in j c.mark.new.self f q) one
          ∙ ap (λ ms. marked_in (suc k) ms f q) c.mark.ensures
          ∙ ap (λ ms. marked_in (suc k) (slice_set ms k true) f q) c.requires.marks
          ∙ pass_begin f k m q c.requires.block)
          ∙ or_turn (is_reached c.args.ends.now q) (is_in (f k) q);
      marks = ap length c.mark.ensures ∙ length-set c.args.marks.now k true ∙ ap length c.requires.marks ∙ length-replicate m false;
      ends = refl;
      left = omega (arith, c.requires.block);
    }

pub loop-marked-preserved : goal.loop-marked-preserved
loop-marked-preserved c =
    let p = c.args.program.now in
    let way = c.args.way in
    let base = c.args.base in
    let codes = codes_of p.blocks in
    let f = block_cells way base codes in
    let n = c.in-Some.marked in
    let ends = c.loop-marked.ends in
    let marks = c.loop-marked.marks in
    let found : IsLast marks c.loop-marked.left n = c.in-Some.ensures in
    let own = code_list c.as_slice-statements.result.now in
    let whole : block_at codes n ≡ own =
    ap (λ q. block_at (codes_of q) n) (sym c.as_slice-blocks.ensures)
    ∙ block_is c.as_slice-blocks.result.now n c.index-blocks-left.result (omega (arith, ap length c.as_slice-blocks.ensures, c.loop-marked.invariant.left, found.below)) c.index-blocks-left.is
    ∙ ap code_list (ap (λ (q : Block). q.statements) c.index-blocks-left.is ∙ sym c.as_slice-statements.ensures) in
    record {
      told = λ q h.
          let all = is_in (f c.args.block) q || is_reached c.args.ends.now q in
          let step : marked_in c.loop-marked.left marks f q ≡ marked_in (suc n) marks f q = passed_in c.loop-marked.left (suc n) marks f q (omega (arith, found.below)) (λ k from less. found.after k (omega arith) less) in
          let told = ap (λ t. is_reached ends q || t) (sym step) ∙ c.loop-marked.invariant.told q h in
          let passed = pass_marked way base n codes marks q (is_reached ends q) all p.in_order (omega (arith, c.loop-marked.invariant.marks, c.loop-marked.invariant.left, found.below)) found.here told in
          let here = subst (λ b. ((is_in (all_cells way b base no_cells) q || is_reached ends q) || marked_in n (with_marks (all_runs b) marks) f q) ≡ all) whole passed in
          ap₂ (λ s t. s || t)
          (ap (λ e. is_reached e q) c.note_statements.ensures ∙ noted_reached (all_cells way own base no_cells) ends q (omega (arith, h, c.loop-marked.invariant.ends)))
          (ap (λ ms. marked_in n ms f q) c.mark_statements.ensures)
          ∙ here;
      marks = ap length c.mark_statements.ensures ∙ marks_length (all_runs own) marks ∙ c.loop-marked.invariant.marks;
      ends = ap length c.note_statements.ensures ∙ noted_length (all_cells way own base no_cells) ends ∙ c.loop-marked.invariant.ends;
      left = omega (arith, c.loop-marked.invariant.left, found.below);
    }

pub returns-clause-reached : goal.returns-clause-reached
returns-clause-reached c = λ q h.
    let f = block_cells c.args.way c.args.base (codes_of c.args.program.now.blocks) in
    let ends = c.loop-marked.ends in
    sym (ap (λ t. is_reached ends q || t) (passed_in c.loop-marked.left 0 c.loop-marked.marks f q (omega arith) c.in_default.ensures) ∙ or-false (is_reached ends q))
    ∙ c.loop-marked.invariant.told q h
