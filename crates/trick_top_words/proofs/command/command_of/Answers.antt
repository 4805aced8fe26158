use Rattle.std.proofs.Common.{◌≡◌, ◌∙◌, sym, subst, List, Some}
use Rattle.clap.specs.Walk.{Row, Text, rows_of}
use Rattle.clap.specs.Matches.{found_of}
use Rattle.trick_top_words.specs.Commands.{name_of}
use Rattle.trick_top_words.specs.Fields.{HasPlaces}
use Rattle.trick_top_words.specs.Reads.{IsRead, Values, values_of}
use Rattle.trick_top_words.specs.declared.Kind.{Kind}
use Rattle.trick_top_words.proofs.Reading.{kind_some, name_met, named_some, rows_met, same_kind}
use Rattle.trick_top_words.proofs.Values.{found_as, held_values}
use Rattle.trick_top_words.proofs.command.command_of.Goals as goal

some_text : (a b : Text) → Some a ≡ Some b → a ≡ b
some_text a b e = cc e

some_rows : (a b : List Row) → Some a ≡ Some b → a ≡ b
some_rows a b e = cc e

pub unwrap-name-requires : goal.unwrap-name-requires
unwrap-name-requires c =
    let line = c.requires in
    named_some c.subcommand_name.result (name_of line.kind) (c.subcommand_name.ensures ∙ name_met c.args.matches.now (name_of line.kind) line.read.rows line.read.below)

pub unwrap-kind-requires : goal.unwrap-kind-requires
unwrap-kind-requires c =
    let line = c.requires in
    let named = rw c.unwrap-name.ensures at c.subcommand_name.ensures in
    let name = some_text c.unwrap-name.result.now (name_of line.kind) (named ∙ name_met c.args.matches.now (name_of line.kind) line.read.rows line.read.below) in
    kind_some c.kind_of.result c.unwrap-name.result.now line.kind name c.kind_of.ensures

pub unwrap-found-requires : goal.unwrap-found-requires
unwrap-found-requires c = c.subcommand_matches.ensures.found.1 (sym (rw c.unwrap-name.ensures at c.subcommand_name.ensures))

pub command_by-requires : goal.command_by-requires
command_by-requires c =
    let line = c.requires in
    let named = rw c.unwrap-name.ensures at c.subcommand_name.ensures in
    let name = some_text c.unwrap-name.result.now (name_of line.kind) (named ∙ name_met c.args.matches.now (name_of line.kind) line.read.rows line.read.below) in
    let kind_is : c.unwrap-name.result.now ≡ name_of c.unwrap-kind.result = rw c.unwrap-kind.ensures at c.kind_of.ensures in
    let same : line.kind ≡ c.unwrap-kind.result = same_kind line.kind c.unwrap-kind.result (sym name ∙ kind_is) in
    let seen = rw c.unwrap-found.ensures at c.subcommand_matches.ensures.rows in
    let held : rows_of (found_of c.unwrap-found.result.now) ≡ line.read.rows =
    some_rows _ _ (sym seen ∙ rows_met c.args.matches.now (name_of line.kind) line.read.rows line.read.below) in
    let values : values_of c.unwrap-found.result.now ≡ line.values = held_values c.unwrap-found.result.now line.read.rows held ∙ line.read.are in
    subst (λ (k : Kind). HasPlaces k (values_of c.unwrap-found.result.now)) same (subst (λ (v : Values). HasPlaces line.kind v) (sym values) line.places)

pub returns : goal.returns
returns c =
    let line = c.requires in
    let named = rw c.unwrap-name.ensures at c.subcommand_name.ensures in
    let name = some_text c.unwrap-name.result.now (name_of line.kind) (named ∙ name_met c.args.matches.now (name_of line.kind) line.read.rows line.read.below) in
    let kind_is : c.unwrap-name.result.now ≡ name_of c.unwrap-kind.result = rw c.unwrap-kind.ensures at c.kind_of.ensures in
    let same : line.kind ≡ c.unwrap-kind.result = same_kind line.kind c.unwrap-kind.result (sym name ∙ kind_is) in
    let seen = rw c.unwrap-found.ensures at c.subcommand_matches.ensures.rows in
    let held : rows_of (found_of c.unwrap-found.result.now) ≡ line.read.rows =
    some_rows _ _ (sym seen ∙ rows_met c.args.matches.now (name_of line.kind) line.read.rows line.read.below) in
    let values : values_of c.unwrap-found.result.now ≡ line.values = held_values c.unwrap-found.result.now line.read.rows held ∙ line.read.are in
    let read = subst (λ (k : Kind). IsRead c.args.matches.now k (values_of c.unwrap-found.result.now)) same (subst (λ (v : Values). IsRead c.args.matches.now line.kind v) (sym values) line.read) in
    found_as c.args.matches.now c.unwrap-kind.result (values_of c.unwrap-found.result.now) c.command_by.result read c.command_by.ensures
