use Rattle.std.proofs.Common.{◌≡◌, ◌<◌, ◌++◌, ◌∷◌, [], List, length, ap, sym, ◌∙◌, subst}
use Rattle.trick_check_blocks.specs.Held.{bodies_of}
use Rattle.trick_check_blocks.specs.Kept.{is_one_of}
use Rattle.trick_check_blocks.specs.Methods.{Progress, progress, with_parts}
use Rattle.trick_check_bodies.proofs.Wholes.{class_whole, made_of, parts_many}
use Rattle.trick_check_bodies.proofs.class.add_class.Goals as goal
use Rattle.trick_check_bodies.specs.Classes.{AreWhole, class_progress, made, with_class}
use Rattle.trick_check_bodies.specs.Methods.{class_methods, with_numbers}
use Rattle.trick_lang.specs.Syntax.{class_parts_of}

pub returns-clause-made : goal.returns-clause-made
returns-clause-made c =
    let old = c.args.bodies.now in
    let class = c.args.class in
    let parts = class_parts_of c.args.parts.now in
    let order = c.args.order.now in
    let before = progress old.scope (bodies_of old.blocks.items) in
    let after = class_progress class order parts before in
    let there : progress c.resolve_class.new.scope (bodies_of c.resolve_class.new.blocks.items) ≡ after =
    c.in_ok-resolve_class.ensures ∙ ap (λ q. with_parts order parts (progress q (bodies_of old.blocks.items))) c.enter.ensures.scope in
    let methods : c.add_methods.new.methods ≡ old.methods ++ class_methods class after.scope.methods parts =
    c.in_ok-add_methods.ensures ∙ ap (λ (q : Progress). old.methods ++ class_methods class q.scope.methods parts) there in
    let own : c.in_ok-own.own ≡ with_numbers (length old.methods) parts [] =
    c.in_ok-own.ensures ∙ ap (λ n. with_numbers n parts []) c.in_ok-first.ensures in
    let numbers : c.push.new.self ≡ old.numbers ++ with_numbers (length old.methods) parts [] ∷ [] =
    c.in_ok-push.ensures.ok ∙ ap (λ q. old.numbers ++ q ∷ []) own in
    ap (λ q. made_of q c.add_methods.new.methods c.push.new.self) there
    ∙ (ap (λ q. made_of after q c.push.new.self) methods
    ∙ ap (made_of after (old.methods ++ class_methods class after.scope.methods parts)) numbers)

pub returns-clause-whole : goal.returns-clause-whole
returns-clause-whole c =
    let parts = c.args.parts.now in
    subst AreWhole (sym (returns-clause-made c))
    (class_whole c.args.class c.args.order.now (class_parts_of parts) (made c.args.bodies.now) c.requires.tables c.requires.home
    (λ k less. c.requires.order k (subst (λ n. k < n) (parts_many parts) less)) c.requires.whole)
