-- What the texts of the classes of a universe have by the grammar: those of the kernel, and the given ones.
use Rattle.std.proofs.Common.{◌≡◌, ℕ, Bool, true, false, List, [], ◌∷◌, map, Some, refl, ap, ap₂, ◌∙◌}
use Rattle.std.specs.List.{flat_map}
use Rattle.std.specs.Prelude.{slice_get, ◌||◌, if◌then◌else◌}
use Rattle.std.specs.Str.{bytes_eq}
use Rattle.eif_base.specs.Numbering.{is_among}
use Rattle.eif_classes.specs.Features.{is_attribute, declaration_of}
use Rattle.eif_lineage_laws.proofs.EachItem.{AllOf, all_from, all_then}
use Rattle.eif_lineage_laws.proofs.KernelClasses.{of_each}
use Rattle.eif_spelled_trees.specs.SpelledTrees.{IsName, IsTyped, HasForm, IsSpelledDeclaration, IsSpelledClass, AreSpelled}
use Rattle.eif_system.specs.Inheritance.{any_clause, clauses}
use Rattle.eif_system.specs.Kernel.{any_name}
use Rattle.eif_system.specs.Universe.{universe}
use Rattle.eif_tree.specs.declared.tree.NameAt.{NameAt}
use Rattle.eif_tree.specs.Members.{has_name, declarations, declared_names, result_name}
use Rattle.eif_tree.specs.Tree.{KindT, attribute, constant, deferred_body, routine, ParentT, DeclT, ClassT}
use Rattle.eif_binding_laws.proofs.Searches.{turned, apart, among_append, map_append, found_has}
use Rattle.eif_ancestry.proofs.Members.{or_cases, is_false}

-- the new names of a clause are names
abbrev pub RenamesToNames : ParentT → Type 0
RenamesToNames p = AllOf (λ r. IsName r.new_name) p.renames

-- an attribute has a type and no arguments
abbrev pub IsTypedField : DeclT → Type 0
IsTypedField x = is_attribute x.kind ≡ true → IsTyped x

-- a text declares no Result, its clauses rename nothing to it, and its attributes have types and no arguments
pub record IsSpelledText (c : ClassT) : Type 0 where
  pub names : is_among (map (λ n. n.name) (declared_names c)) result_name ≡ false
  pub renames : AllOf RenamesToNames (clauses c)
  pub fields : AllOf IsTypedField (declarations c)

-- ---- a given class

no_name : (ns : List NameAt) → AllOf IsName ns → is_among (map (λ n. n.name) ns) result_name ≡ false
no_name [] h = refl
no_name (n ∷ ns) h =
    let rest = is_among (map (λ n. n.name) ns) result_name in
    is_false _ (λ t. or_cases ⊥ (bytes_eq result_name n.name) rest t
    (λ e. apart (bytes_eq n.name result_name) (turned n.name result_name e) h.0)
    (λ e. apart rest e (no_name ns h.1)))

none_declared : (xs : List DeclT) → AllOf IsSpelledDeclaration xs
    → is_among (map (λ n. n.name) (flat_map (λ x. x.names) xs)) result_name ≡ false
none_declared [] h = refl
none_declared (x ∷ xs) h =
    ap (λ ns. is_among ns result_name) (map_append (λ n. n.name) x.names (flat_map (λ x. x.names) xs))
    ∙ (among_append (map (λ n. n.name) x.names) (map (λ n. n.name) (flat_map (λ x. x.names) xs)) result_name
    ∙ ap₂ ◌||◌ (no_name x.names (all_from IsName x.names h.0.names)) (none_declared xs h.1))

typed_field : (x : DeclT) → IsSpelledDeclaration x → IsTypedField x
typed_field x is = go x.kind is.form
  where
    go : (k : KindT) → HasForm x k → is_attribute k ≡ true → IsTyped x
    go attribute form h = form
    go (constant v) form h = cc
    go deferred_body form h = cc
    go (routine locals body) form h = cc

renamed_so : (c : ClassT) → AllOf RenamesToNames c.parents → AllOf RenamesToNames (clauses c)
renamed_so c h = go c.parents refl h
  where
    unwritten : (b : Bool) → AllOf RenamesToNames (if b then [] else any_clause ∷ [])
    unwritten true = tt
    unwritten false = (tt, tt)

    go : (ps : List ParentT) → c.parents ≡ ps → AllOf RenamesToNames ps → AllOf RenamesToNames (clauses c)
    go [] e h = rw e (unwritten (bytes_eq c.name any_name))
    go (p ∷ ps) e h = rw e h

given_text : (c : ClassT) → IsSpelledClass c → IsSpelledText c
given_text c is =
    let each = all_from IsSpelledDeclaration (declarations c) is.declared in
    record {
      names = none_declared (declarations c) each;
      renames = renamed_so c (all_from RenamesToNames c.parents
          (λ i p at. all_from (λ r. IsName r.new_name) p.renames (is.renamed i p at)));
      fields = all_then IsSpelledDeclaration IsTypedField (declarations c) typed_field each;
    }

-- ---- each class

pub spelled_texts : (given : List ClassT) → AreSpelled given → (d : ℕ) (c : ClassT)
    → slice_get (universe given) d ≡ Some c
    → IsSpelledText c
spelled_texts given spelled = of_each given (λ d c. IsSpelledText c)
    (record {
      any = record { names = refl; renames = tt; fields = (λ h. cc, (λ h. cc, (λ h. cc, tt))) };
      integer = record { names = refl; renames = (tt, tt); fields = tt };
      boolean = record { names = refl; renames = (tt, tt); fields = tt };
      character = record { names = refl; renames = (tt, tt); fields = (λ h. cc, tt) };
      string = record {
        names = refl;
        renames = (tt, tt);
        fields = (λ h. cc, (λ h. cc, (λ h. cc, (λ h. cc, (λ h. cc, tt)))));
      };
      array = record {
        names = refl;
        renames = (tt, tt);
        fields = (λ h. cc, (λ h. cc, (λ h. cc, (λ h. cc, (λ h. cc, (λ h. cc, tt))))));
      };
    })
    (λ i c at. given_text c (spelled i c at))

-- an attribute of a class has a type and no arguments
pub field_typed : (c : ClassT) → IsSpelledText c → (n : List ℕ) (x : DeclT) → declaration_of c n ≡ Some x
    → is_attribute x.kind ≡ true
    → IsTyped x
field_typed c is n x found = found_has IsTypedField (λ x. has_name x.names n) (declarations c) x is.fields found
