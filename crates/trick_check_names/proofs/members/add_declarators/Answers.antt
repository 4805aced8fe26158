use Rattle.std.proofs.Common.{◌≡◌, ◌+◌, ◌∙◌, drop, subst, ap}
use Rattle.trick_lang.specs.Syntax.{declarators_of}
use Rattle.trick_check_names.proofs.Definitions.{declarators_next}
use Rattle.trick_check_names.proofs.Noted.{noted_next}
use Rattle.trick_check_names.proofs.members.add_declarators.Goals as goal
use Rattle.trick_check_names.specs.FileMistakes.{declarator_mistakes}
use Rattle.trick_check_names.specs.Mistakes.{noted, twice}
use Rattle.trick_check_names.specs.Names.{with_name}
use Rattle.trick_check_names.specs.Tables.{with_declarators, lengths_of}
use Rattle.trick_check_names.specs.declared.tables.Member.{Member}
use Rattle.trick_check_names.specs.declared.tables.Member.TheVariants.{Variable}

pub loop-declarator-preserved : goal.loop-declarator-preserved
loop-declarator-preserved c =
    let base = c.args.base in
    let xs = c.args.declarators.now in
    let i = c.loop-declarator.declarator-index in
    let item = c.declarator-item.result in
    let known = c.loop-declarator.members in
    let next = declarators_next xs i item c.loop-declarator-test.true c.declarator-item.is in
    let rest = declarators_of (drop (i + 1) xs) in
    let shape : Member = Variable (record { lengths = lengths_of item.lengths; base = base }) in
    let lengths : c.lengths.result ≡ lengths_of item.lengths = c.lengths.ensures ∙ ap lengths_of c.as_slice.ensures in
    let added : c.declare.new.names ≡ with_name item.name shape known =
    c.in_ok-declare.ensures.names ∙ ap (λ (ls : _). with_name item.name (Variable (record { lengths = ls; base = base })) known) lengths in
    let members = subst (λ q. with_declarators q base known ≡ with_declarators (declarators_of xs) base c.args.members.now) next c.loop-declarator.invariant.members in
    let told = subst (λ q. noted (declarator_mistakes q base known) c.loop-declarator.found ≡ noted (declarator_mistakes (declarators_of xs) base c.args.members.now) c.args.found.now) next c.loop-declarator.invariant.told in
    record {
      members = ap (with_declarators rest base) added ∙ members;
      told = ap (λ ms. noted (declarator_mistakes rest base ms) c.declare.new.found) added
          ∙ noted_next (twice item.name known) (declarator_mistakes rest base (with_name item.name shape known)) c.loop-declarator.found c.declare.new.found _ told c.in_ok-declare.ensures.found;
    }
