use Rattle.std.proofs.Common.{◌≡◌, ◌<◌, ◌∙◌, ap, subst, sym, length, slice_get, slice_index_or, Some}
use Rattle.trick_check_names.proofs.Known.{entry_is, shown_length}
use Rattle.trick_check_names.proofs.names.Names.entry.Goals as goal

pub returns : goal.returns
returns g c =
    let entries = c.self.inside.table.entries in
    let name = c.index-as_slice-place.result in
    let meaning = c.index-as_slice-place-2.result in
    let place = c.args.place in
    let low = subst (λ n. place < n) (ap length (sym c.self.view_is) ∙ shown_length entries) c.requires.here in
    let key = subst (λ ks. name ≡ slice_index_or ks place name) (c.as_slice.ensures ∙ c.keys.ensures.rest) c.index-as_slice-place.is in
    let value = subst (λ vs. meaning ≡ slice_index_or vs place meaning) (c.as_slice-2.ensures ∙ c.values.ensures.rest) c.index-as_slice-place-2.is in
    ap (λ names. slice_get names place) (sym c.self.view_is)
    ∙ (entry_is entries place name meaning low key value ∙ ap (λ n. Some (n, meaning)) (sym c.as_slice-name.ensures.value))
