use Rattle.std.proofs.Common.{◌≡◌, ℕ, List, map, Some, None, Bor, sym, ap, ◌∙◌}
use Rattle.std.specs.List.{list_any}
use Rattle.std.specs.Option.{option_map}
use Rattle.std.specs.Str.{bytes_eq}
use Rattle.eif_classes.specs.Creators.{default_creator}
use Rattle.eif_redecl.proofs.CreatorLaws.{default_is, no_default, no_part, some_part, written_creator}
use Rattle.eif_redecl.proofs.HeirLaws.{line_is}
use Rattle.eif_signatures.specs.DerivedSystems.{classes_in}
use Rattle.eif_system.specs.Lineage.{line_of}
use Rattle.eif_tree.specs.View.{class_view}
use Rattle.eif_tree.specs.declared.tree.NameAt.{NameAt}
use Rattle.eif_redecl.proofs.entry.Heir.is_creator.Goals as goal

pub returns-then-not-is_empty : goal.returns-then-not-is_empty
returns-then-not-is_empty c =
    let h = c.args.self.now in
    let parts = h.class.now.creators in
    c.has_name.ensures
    ∙ (ap (λ (ns : List (Bor NameAt)). list_any (λ (n : NameAt). bytes_eq n.name c.args.name.now) (map (λ n. n.now) ns))
    c.deref.ensures.value
    ∙ (ap (list_any (λ (n : NameAt). bytes_eq n.name c.args.name.now)) c.in_ok-names.ensures
    ∙ written_creator (classes_in h.system) h.class_id.0 (class_view h.class.now) (line_of (classes_in h.system) h.class_id.0)
    (line_is h c.requires.heir) c.args.name.now
    (some_part parts.items parts.len c.is_empty.result parts.ok.0 c.is_empty.ensures c.if-not-is_empty.true)))

pub returns-in-Some : goal.returns-in-Some
returns-in-Some c =
    let h = c.args.self.now in
    let parts = h.class.now.creators in
    let l = line_of (classes_in h.system) h.class_id.0 in
    let default : default_creator l ≡ Some c.in-Some.default.now =
    sym c.in_ok-default.ensures ∙ ap (option_map (λ (n : Bor (List ℕ)). n.now)) c.in-Some.is in
    c.eq.ensures
    ∙ default_is (classes_in h.system) h.class_id.0 (class_view h.class.now) l (line_is h c.requires.heir) c.args.name.now
    (no_part parts.items parts.len c.is_empty.result parts.ok.0 c.is_empty.ensures c.if-not-is_empty.false)
    c.in-Some.default.now default

pub returns-in-None : goal.returns-in-None
returns-in-None c =
    let h = c.args.self.now in
    let parts = h.class.now.creators in
    let l = line_of (classes_in h.system) h.class_id.0 in
    let default : default_creator l ≡ None =
    sym c.in_ok-default.ensures ∙ ap (option_map (λ (n : Bor (List ℕ)). n.now)) c.in-None.is in
    no_default (classes_in h.system) h.class_id.0 (class_view h.class.now) l (line_is h c.requires.heir) c.args.name.now
    (no_part parts.items parts.len c.is_empty.result parts.ok.0 c.is_empty.ensures c.if-not-is_empty.false) default
