use Rattle.std.proofs.Common.{◌∙◌, ap, codes, refl, rules}
use Rattle.csv.specs.Records.{field_at, fields_of}
use Rattle.rd_commands.proofs.RowFields.{are_names, named_first, named_fourth, named_last, named_second, named_third, no_header}
use Rattle.rd_commands.proofs.sheet.is_header.Goals as goal

pub returns-then-not-is_named : goal.returns-then-not-is_named
returns-then-not-is_named c = no_header (fields_of c.args.fields.now) 0 (codes "accession") named_first c.if-not-is_named.ensures

pub returns-then-not-is_named-2 : goal.returns-then-not-is_named-2
returns-then-not-is_named-2 c = no_header (fields_of c.args.fields.now) 1 (codes "kind") named_second c.if-not-is_named-2.ensures

pub returns-then-not-is_named-3 : goal.returns-then-not-is_named-3
returns-then-not-is_named-3 c = no_header (fields_of c.args.fields.now) 2 (codes "deed") named_third c.if-not-is_named-3.ensures

pub returns-then-not-is_named-4 : goal.returns-then-not-is_named-4
returns-then-not-is_named-4 c = no_header (fields_of c.args.fields.now) 3 (codes "sha256") named_fourth c.if-not-is_named-4.ensures

pub returns : goal.returns
returns c = (
  λ is.
      are_names (fields_of c.args.fields.now) (search rules) (c.if-not-is_named.ensures.0 refl) (c.if-not-is_named-2.ensures.0 refl)
      (c.if-not-is_named-3.ensures.0 refl) (c.if-not-is_named-4.ensures.0 refl) (c.is_named-5.ensures.0 is),
  λ same. c.is_named-5.ensures.1 (ap (λ fs. field_at fs 4) same ∙ named_last),
)
