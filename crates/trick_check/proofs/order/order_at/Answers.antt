use Rattle.std.proofs.Common.{◌≡◌, ◌<◌, IfOk, length, ap, sym, ◌∙◌, subst, arith}
use Rattle.trick_check.proofs.Calls.{callees_there, groups_many}
use Rattle.trick_check.proofs.Lists.{definitions_many, members_found}
use Rattle.trick_check.proofs.order.order_at.Goals as goal
use Rattle.trick_check.specs.Parts.{IsOneOrder, calls_at, parts_at}
use Rattle.trick_lang.specs.Syntax.{class_parts_of, definitions_of}
use Rattle.trick_check_names.specs.Calls.{class_calls}
use Rattle.trick_check_names.specs.Names.{Names}
use Rattle.trick_check_names.specs.Places.{members_at}
use Rattle.trick_check_names.specs.Tables.{tables_of}
use Rattle.trick_check_names.specs.declared.tables.Member.{Member}
use Rattle.trick_check_names.specs.declared.tables.Tables.{Tables}
use Rattle.trick_check_order.specs.Calls.{AreCallees, IsFirst}

pub bounds-groups-class : goal.bounds-groups-class
bounds-groups-class c =
    let ds = definitions_of c.args.definitions.now in
    let many : length c.as_slice-groups.result.now ≡ length c.args.definitions.now =
    ap length c.as_slice-groups.ensures ∙ (ap (λ t. length t.groups) c.requires.tables ∙ (groups_many ds ∙ definitions_many c.args.definitions.now)) in
    omega (arith, many, c.requires.here)

pub order_of-requires : goal.order_of-requires
order_of-requires c =
    let ds = definitions_of c.args.definitions.now in
    let class = c.args.class in
    let many : length c.as_slice-groups.result.now ≡ length c.args.definitions.now =
    ap length c.as_slice-groups.ensures ∙ (ap (λ (t : Tables). length t.groups) c.requires.tables ∙ (groups_many ds ∙ definitions_many c.args.definitions.now)) in
    let here : class < length c.as_slice-groups.result.now = omega (arith, many, c.requires.here) in
    let own : c.index-groups-class.result ≡ members_at (tables_of ds).groups class =
    members_found c.as_slice-groups.result.now class c.index-groups-class.result here c.index-groups-class.is
    ∙ ap (λ (gs : _). members_at gs class) (c.as_slice-groups.ensures ∙ ap (λ (t : Tables). t.groups) c.requires.tables) in
    let calls : class_calls (class_parts_of c.parts_at.result.now) c.index-groups-class.result ≡ calls_at ds class =
    ap (λ ps. class_calls ps c.index-groups-class.result) c.parts_at.ensures ∙ ap (λ (q : Names Member). class_calls (parts_at ds class) q) own in
    record { there = subst AreCallees (sym calls) (callees_there ds class) }

pub returns-clause-ordered : goal.returns-clause-ordered
returns-clause-ordered c =
    let ds = definitions_of c.args.definitions.now in
    let class = c.args.class in
    let many : length c.as_slice-groups.result.now ≡ length c.args.definitions.now =
    ap length c.as_slice-groups.ensures ∙ (ap (λ (t : Tables). length t.groups) c.requires.tables ∙ (groups_many ds ∙ definitions_many c.args.definitions.now)) in
    let here : class < length c.as_slice-groups.result.now = omega (arith, many, c.requires.here) in
    let own : c.index-groups-class.result ≡ members_at (tables_of ds).groups class =
    members_found c.as_slice-groups.result.now class c.index-groups-class.result here c.index-groups-class.is
    ∙ ap (λ (gs : _). members_at gs class) (c.as_slice-groups.ensures ∙ ap (λ (t : Tables). t.groups) c.requires.tables) in
    let calls : class_calls (class_parts_of c.parts_at.result.now) c.index-groups-class.result ≡ calls_at ds class =
    ap (λ ps. class_calls ps c.index-groups-class.result) c.parts_at.ensures ∙ ap (λ (q : Names Member). class_calls (parts_at ds class) q) own in
    subst (λ g. IfOk c.order_of.result (λ order. IsOneOrder g order.items)) calls c.order_of.ensures.ordered

pub returns-clause-recursive : goal.returns-clause-recursive
returns-clause-recursive c =
    let ds = definitions_of c.args.definitions.now in
    let class = c.args.class in
    let many : length c.as_slice-groups.result.now ≡ length c.args.definitions.now =
    ap length c.as_slice-groups.ensures ∙ (ap (λ (t : Tables). length t.groups) c.requires.tables ∙ (groups_many ds ∙ definitions_many c.args.definitions.now)) in
    let here : class < length c.as_slice-groups.result.now = omega (arith, many, c.requires.here) in
    let own : c.index-groups-class.result ≡ members_at (tables_of ds).groups class =
    members_found c.as_slice-groups.result.now class c.index-groups-class.result here c.index-groups-class.is
    ∙ ap (λ (gs : _). members_at gs class) (c.as_slice-groups.ensures ∙ ap (λ (t : Tables). t.groups) c.requires.tables) in
    let calls : class_calls (class_parts_of c.parts_at.result.now) c.index-groups-class.result ≡ calls_at ds class =
    ap (λ ps. class_calls ps c.index-groups-class.result) c.parts_at.ensures ∙ ap (λ (q : Names Member). class_calls (parts_at ds class) q) own in
    λ k is. subst (λ g. IsFirst g k) calls (c.order_of.ensures.recursive k is)
