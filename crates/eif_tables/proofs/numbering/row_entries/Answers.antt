use Rattle.std.proofs.Common.{◌≡◌, ℕ, ◌<◌, List, get_or, length, Some, ap, ◌∙◌, arith}
use Rattle.std.specs.Prelude.{slice_get}
use Rattle.std.proofs.lemmas.Option.{slice_get-get_or}
use Rattle.eif_base.specs.declared.feat_id.FeatId.{FeatId}
use Rattle.eif_tables.specs.declared.row_entry.RowEntry.{RowEntry}
use Rattle.eif_tables.proofs.Entries.{map_more}
use Rattle.eif_tables.proofs.numbering.row_entries.Goals as goal

pub names-preserved : goal.names-preserved
names-preserved c =
    let names = c.args.row.now.names.items in
    let i = c.names.i in
    let name = c.name-item.result in
    let value = c.deref-name-items.ensures.value in
    let long = ap length value in
    let within : i < length names = omega (arith, long, c.names-test.true) in
    let is : name ≡ get_or names i name = cc (value, c.name-item.is) in
    record {
      name_ids = map_more (λ (e : RowEntry). slice_get c.args.numbering.now e.name_id.0) (λ (n : List ℕ). Some n)
          c.names.entries.items c.push.new.self.items c.in_ok-entry.field-0 names i name c.in_ok-push.ensures.items
          within c.names.invariant.name_ids (c.in_ok-entry.ensures.name ∙ ap Some is);
      feats = map_more (λ (e : RowEntry). slice_get names e.feat.0) (λ (n : List ℕ). Some n) c.names.entries.items
          c.push.new.self.items c.in_ok-entry.field-0 names i name c.in_ok-push.ensures.items within
          c.names.invariant.feats (ap (λ (f : FeatId). slice_get names f.0) c.in_ok-entry.ensures.feat
          ∙ slice_get-get_or names i name within);
    }
