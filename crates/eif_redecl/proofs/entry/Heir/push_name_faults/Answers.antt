use Rattle.std.proofs.Common.{◌≡◌, ℕ, true, false, List, [], ◌∷◌, ◌++◌, sym, ap, ◌∙◌, append_assoc}
use Rattle.std.specs.List.{list_any}
use Rattle.std.specs.Option.{option_and_then, option_map}
use Rattle.std.proofs.lemmas.Option.{same_Some}
use Rattle.std.proofs.lemmas.Result.{on_ok_weaker}
use Rattle.eif_base.specs.declared.code.Code.TheVariants as code
use Rattle.eif_base.specs.declared.fault.Fault.{Fault}
use Rattle.eif_binding_laws.proofs.Searches.{found_passes}
use Rattle.eif_classes.specs.Signatures.{signed_entries_in}
use Rattle.eif_feature_rules.specs.JoinRules.{has_large_entry, has_large_type, signed_name, unequal_join, unfit_version}
use Rattle.eif_redecl.proofs.DeclaredHere.{declared_by, first_named, has_first, here_is}
use Rattle.eif_redecl.proofs.NameLaws.{declared_is, inherited_is, large_is}
use Rattle.eif_redecl.proofs.SeenLaws.{large_entry}
use Rattle.eif_redecl.specs.EntryViews.{EntryView, entry_view}
use Rattle.eif_rules.specs.FaultForms.{fault_at}
use Rattle.eif_signatures.specs.DerivedSystems.{classes_in}
use Rattle.eif_system.specs.Lineage.{line_of}
use Rattle.eif_tables.proofs.Held.{name_at}
use Rattle.eif_tree.specs.Members.{declarations, has_name}
use Rattle.eif_tree.specs.Tree.{DeclT}
use Rattle.eif_tree.specs.View.{class_view, decl_view}
use Rattle.eif_redecl.proofs.entry.Heir.push_name_faults.Goals as goal

pub returns-then-has_large_entry : goal.returns-then-has_large_entry
returns-then-has_large_entry c = λ x at are.
    let h = c.args.self.now in
    let u = classes_in h.system in
    let d = h.class_id.0 in
    let l = line_of u d in
    let class = class_view h.class.now in
    let named = same_Some c.name-name.result.now x.name
    (sym (c.name-name.ensures u c.requires.heir.system.tables_are) ∙ name_at l c.args.feat.0 x at) in
    let large : has_large_entry (signed_entries_in u l x.name) ≡ true =
    sym (large_entry (signed_entries_in u l x.name))
    ∙ (ap (list_any (λ (e : EntryView). has_large_type e.signature)) (sym are)
    ∙ (sym c.has_large_entry.ensures ∙ c.if-has_large_entry.true)) in
    let fault = c.at-fault.ensures ∙ ap (fault_at class code.Xlim 9 class.place) named in
    on_ok_weaker c.push_fault.result
    (λ pushed. pushed ∙ ap (λ (fs : List Fault). c.args.out.now ++ fs)
    (ap (λ (f : Fault). f ∷ []) fault ∙ large_is u d class (signed_name u l x) large))
    c.push_fault.ensures

pub returns-in-Some : goal.returns-in-Some
returns-in-Some c = λ x at are.
    let h = c.args.self.now in
    let u = classes_in h.system in
    let d = h.class_id.0 in
    let l = line_of u d in
    let class = class_view h.class.now in
    let tree = decl_view c.in-Some.decl.now in
    let named = same_Some c.name-name.result.now x.name
    (sym (c.name-name.ensures u c.requires.heir.system.tables_are) ∙ name_at l c.args.feat.0 x at) in
    let small : has_large_entry (signed_entries_in u l x.name) ≡ false =
    sym (large_entry (signed_entries_in u l x.name))
    ∙ (ap (list_any (λ (e : EntryView). has_large_type e.signature)) (sym are)
    ∙ (sym c.has_large_entry.ensures ∙ c.if-has_large_entry.false)) in
    let declares = sym (c.in-Some.ensures class x.name c.requires.heir.at (name_at l c.args.feat.0 x at)) in
    let has = found_passes (λ y. has_name y.names x.name) (declarations class) tree declares in
    let m = has_first x.name tree.names has in
    let here = here_is x.name class
    ∙ (ap (option_and_then (λ (y : DeclT). option_map (declared_by x.name y) (first_named x.name y.names))) declares
    ∙ ap (option_map (declared_by x.name tree)) m.1) in
    on_ok_weaker c.push_declared_name.result
    (λ pushed. pushed ∙ ap (λ (fs : List Fault). c.args.out.now ++ fs)
    (declared_is u d class (signed_name u l x) small (declared_by x.name tree m.0) here))
    (c.push_declared_name.ensures m.0 (signed_entries_in u l x.name)
    (ap (λ (n : List ℕ). first_named n tree.names) named ∙ m.1) are)

pub returns-in-None : goal.returns-in-None
returns-in-None c = λ x at are.
    let h = c.args.self.now in
    let u = classes_in h.system in
    let d = h.class_id.0 in
    let l = line_of u d in
    let class = class_view h.class.now in
    let named = same_Some c.name-name.result.now x.name
    (sym (c.name-name.ensures u c.requires.heir.system.tables_are) ∙ name_at l c.args.feat.0 x at) in
    let small : has_large_entry (signed_entries_in u l x.name) ≡ false =
    sym (large_entry (signed_entries_in u l x.name))
    ∙ (ap (list_any (λ (e : EntryView). has_large_type e.signature)) (sym are)
    ∙ (sym c.has_large_entry.ensures ∙ c.if-has_large_entry.false)) in
    let declares = sym (c.in-None.ensures class x.name c.requires.heir.at (name_at l c.args.feat.0 x at)) in
    let here = here_is x.name class
    ∙ ap (option_and_then (λ (y : DeclT). option_map (declared_by x.name y) (first_named x.name y.names))) declares in
    on_ok_weaker c.push_inherited_name.result
    (λ pushed. pushed
    ∙ (append_assoc c.args.out.now (unfit_version u d class (signed_name u l x)) (unequal_join class (signed_name u l x))
    ∙ ap (λ (fs : List Fault). c.args.out.now ++ fs) (inherited_is u d class (signed_name u l x) small here)))
    (c.push_inherited_name.ensures x at named are)
