use Rattle.std.proofs.Common.{ap, ap₂, sym, ◌∙◌}
use Rattle.std.proofs.lemmas.Option.{same_Some}
use Rattle.eif_rows.specs.Rows.{declaration_at}
use Rattle.eif_system.specs.Lineage.{line_of}
use Rattle.eif_tree.specs.View.{class_view}
use Rattle.eif_universe.specs.Universes.{classes_of}
use Rattle.eif_tables.proofs.Held.{declared_told, feature_named}
use Rattle.eif_tables.proofs.tables.Tables.declaration.Goals as goal

pub returns-in-Some : goal.returns-in-Some
returns-in-Some c = λ class n at named.
    let u = classes_of c.args.u.now in
    let d = c.args.c.0 in
    let x = feature_named (line_of u d) c.args.f.0 n named in
    let text = same_Some (class_view c.tree.result.now) class (sym c.tree.ensures ∙ at) in
    c.declaration_at.ensures
    ∙ (ap₂ declaration_at text (sym c.in-Some.is)
    ∙ declared_told u d c.feature_row.result.now x.0 n class
    (c.feature_row.ensures u x.0 c.requires.tables x.1) at x.2)

pub returns-in-None : goal.returns-in-None
returns-in-None c = λ class n at named.
    let u = classes_of c.args.u.now in
    let d = c.args.c.0 in
    let x = feature_named (line_of u d) c.args.f.0 n named in
    sym (ap (declaration_at class) c.in-None.is)
    ∙ declared_told u d c.feature_row.result.now x.0 n class
    (c.feature_row.ensures u x.0 c.requires.tables x.1) at x.2
