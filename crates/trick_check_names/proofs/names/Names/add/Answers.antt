use Rattle.std.proofs.Common.{◌≡◌, ◌∙◌, ap, is_some, sym}
use Rattle.trick_check_names.proofs.Known.{finds, goes_last, none_from, shown, with_known, with_new}
use Rattle.trick_check_names.proofs.names.Names.add.Goals as goal
use Rattle.trick_check_names.specs.Names.{meaning_of}

pub returns-then-contains_key-clause-known : goal.returns-then-contains_key-clause-known
returns-then-contains_key-clause-known g c =
    let entries = c.self.inside.table.entries in
    let asked = finds c.as_slice.result.now entries ∙ (ap (λ q. meaning_of q (shown entries)) c.as_slice.ensures ∙ ap (meaning_of c.args.name.now) c.self.view_is) in
    sym (with_known c.args.name.now c.args.meaning c.args.self.now (sym (ap is_some asked) ∙ (sym c.contains_key.ensures ∙ c.if-contains_key.true)))

pub returns-then-contains_key-clause-was : goal.returns-then-contains_key-clause-was
returns-then-contains_key-clause-was g c =
    let entries = c.self.inside.table.entries in
    let asked = finds c.as_slice.result.now entries ∙ (ap (λ q. meaning_of q (shown entries)) c.as_slice.ensures ∙ ap (meaning_of c.args.name.now) c.self.view_is) in
    sym c.if-contains_key.true ∙ (c.contains_key.ensures ∙ ap is_some asked)

pub returns-clause-known : goal.returns-clause-known
returns-clause-known g c =
    let entries = c.self.inside.table.entries in
    let name = c.args.name.now in
    let asked = finds c.as_slice.result.now entries ∙ (ap (λ q. meaning_of q (shown entries)) c.as_slice.ensures ∙ ap (meaning_of name) c.self.view_is) in
    let absent = sym (ap is_some asked) ∙ (sym c.contains_key.ensures ∙ c.if-contains_key.false) in
    let key : c.into_vec-key.result.items ≡ name = c.into_vec-key.ensures ∙ c.in_ok-try_clone.ensures in
    let new : meaning_of c.into_vec-key.result.items (shown entries) ≡ _ = rw (key, c.self.view_is) (none_from _ absent) in
    ap shown c.in_ok-insert.ensures.entries
    ∙ (goes_last entries c.into_vec-key.result c.args.meaning new
    ∙ (rw (key, c.self.view_is) (sym (with_new name c.args.meaning c.args.self.now absent))))

pub returns-clause-was : goal.returns-clause-was
returns-clause-was g c =
    let entries = c.self.inside.table.entries in
    let asked = finds c.as_slice.result.now entries ∙ (ap (λ q. meaning_of q (shown entries)) c.as_slice.ensures ∙ ap (meaning_of c.args.name.now) c.self.view_is) in
    sym c.if-contains_key.false ∙ (c.contains_key.ensures ∙ ap is_some asked)
