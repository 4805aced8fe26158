-- What a program asks of the blocks of its parts.
use Rattle.std.proofs.Common.{◌≡◌, IsTrue, List, length, sym, subst}
use Rattle.trick_check_blocks.specs.Held.{bodies_of}
use Rattle.trick_check_blocks.specs.Kept.{AreKept, BlocksHold, Keeps, MethodsHold}
use Rattle.trick_check_blocks.specs.Methods.{progress}
use Rattle.trick_check_blocks.specs.declared.scope.ClassScope.{ClassScope}
use Rattle.trick_check.specs.Draft.{IsWhole}
use Rattle.trick_check.specs.declared.draft.ProgramDraft.{ProgramDraft}
use Rattle.trick_lang.specs.Valid.{are_short}
use Rattle.trick_lang.specs.declared.method.Method.{Method}
use Rattle.trick_lang.specs.declared.tree.Block.{Block}

pub blocks_hold : (d : ProgramDraft) (blocks : List Block) → blocks ≡ d.bodies.blocks.items → IsWhole d → ((w : ClassScope) (bs : List Block) → Keeps (progress w (bodies_of bs)) → BlocksHold w.layout.cells w.layout.sizes bs) → BlocksHold (length d.cells) d.bodies.scope.layout.sizes blocks
blocks_hold d blocks is whole law =
    subst (λ q. BlocksHold (length d.cells) d.bodies.scope.layout.sizes q) (sym is)
    (subst (λ n. BlocksHold n d.bodies.scope.layout.sizes d.bodies.blocks.items) whole.cells (law d.bodies.scope d.bodies.blocks.items whole.bodies.keeps))

pub methods_hold : (d : ProgramDraft) (blocks : List Block) → blocks ≡ d.bodies.blocks.items → IsWhole d → ((w : ClassScope) (bs : List Block) (ms : List Method) → AreKept (progress w (bodies_of bs)) ms → MethodsHold w.slots bs ms) → MethodsHold d.bodies.scope.slots blocks d.bodies.methods
methods_hold d blocks is whole law =
    subst (λ q. MethodsHold d.bodies.scope.slots q d.bodies.methods) (sym is) (law d.bodies.scope d.bodies.blocks.items d.bodies.methods whole.bodies.kept)

pub short_steps : (d : ProgramDraft) (blocks : List Block) → blocks ≡ d.bodies.blocks.items → IsWhole d → IsTrue (are_short blocks d.bodies.methods d.jobs)
short_steps d blocks is whole = subst (λ q. IsTrue (are_short q d.bodies.methods d.jobs)) (sym is) whole.short
