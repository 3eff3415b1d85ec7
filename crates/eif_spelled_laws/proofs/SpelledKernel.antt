-- The classes of the kernel are as the grammar has class texts.
use Rattle.std.proofs.Common.{◌≡◌, Bool, true, false, ◌&&◌, not, List, [], ◌∷◌, length, refl}
use Rattle.std.specs.Str.{bytes_eq}
use Rattle.eif_tree.specs.declared.NameAt.{NameAt}
use Rattle.eif_tree.specs.Members.{result_name, declarations}
use Rattle.eif_tree.specs.Tree.{no_inss, KindT, routine, GroupT, ParentT, DeclT, ClassT}
use Rattle.eif_system.specs.Kernel.{kernel}
use Rattle.eif_spelled_trees.specs.SpelledTrees.{Each, IsName, IsAlone, HasForm, IsSpelledDeclaration, IsSpelledClass}
use Rattle.eif_spelled_laws.specs.SpelledTexts.{KernelIsSpelled}
use Rattle.eif_spelled_laws.proofs.Tests.{and_parts, not_true}
use Rattle.eif_spelled_laws.proofs.Eaches.{each_none, each_and}

-- ---- tests

abbrev all_pass : {A : Type 0} → (A → Bool) → List A → Bool
all_pass p [] = true
all_pass p (x ∷ xs) = p x && all_pass p xs

abbrev is_name : NameAt → Bool
is_name n = not (bytes_eq n.name result_name)

abbrev is_group : GroupT → Bool
is_group g = all_pass is_name g.names

abbrev is_one : List NameAt → Bool
is_one (n ∷ []) = true
is_one _ = false

-- a routine without locals whose body is empty
abbrev is_empty : KindT → Bool
is_empty (routine [] no_inss) = true
is_empty _ = false

abbrev is_declaration : DeclT → Bool
is_declaration d = all_pass is_name d.names && (is_one d.names && (all_pass is_group d.arguments && is_empty d.kind))

abbrev has_none : List ParentT → Bool
has_none [] = true
has_none _ = false

abbrev is_class : ClassT → Bool
is_class c = all_pass is_declaration (declarations c) && has_none c.parents

-- ---- what they say

each_passes : {A : Type 0} (P : A → Type 0) (p : A → Bool) → ((x : A) → p x ≡ true → P x) → (xs : List A)
    → all_pass p xs ≡ true → Each P xs
each_passes P p says [] e = each_none P
each_passes P p says (x ∷ xs) e =
    let parts = and_parts (p x) (all_pass p xs) e in
    each_and P x xs (says x parts.0) (each_passes P p says xs parts.1)

name_says : (n : NameAt) → is_name n ≡ true → IsName n
name_says n e = not_true (bytes_eq n.name result_name) e

abbrev IsGroup : GroupT → Type 0
IsGroup g = Each IsName g.names

group_says : (g : GroupT) → is_group g ≡ true → IsGroup g
group_says g e = each_passes IsName is_name name_says g.names e

one_says : (ns : List NameAt) → is_one ns ≡ true → length ns ≡ 1
one_says [] e = cc
one_says (n ∷ []) e = refl
one_says (n ∷ m ∷ ns) e = cc

kind_says : (d : DeclT) (k : KindT) → is_empty k ≡ true → IsAlone d → HasForm d k
kind_says d (routine [] no_inss) e one = (one, each_none IsGroup, tt)
kind_says d _ e one = cc

declaration_says : (d : DeclT) → is_declaration d ≡ true → IsSpelledDeclaration d
declaration_says d e =
    let a = and_parts (all_pass is_name d.names) _ e in
    let b = and_parts (is_one d.names) _ a.1 in
    let c = and_parts (all_pass is_group d.arguments) (is_empty d.kind) b.1 in
    record {
      names = each_passes IsName is_name name_says d.names a.0;
      arguments = each_passes IsGroup is_group group_says d.arguments c.0;
      form = kind_says d d.kind c.1 (one_says d.names b.0);
    }

abbrev IsParent : ParentT → Type 0
IsParent p = Each (λ r. IsName r.new_name) p.renames

none_says : (ps : List ParentT) → has_none ps ≡ true → Each IsParent ps
none_says [] e = each_none IsParent
none_says (p ∷ ps) e = cc

class_says : (c : ClassT) → is_class c ≡ true → IsSpelledClass c
class_says c e =
    let a = and_parts (all_pass is_declaration (declarations c)) (has_none c.parents) e in
    record {
      declared = each_passes IsSpelledDeclaration is_declaration declaration_says (declarations c) a.0;
      renamed = none_says c.parents a.1;
    }

pub kernel_spelled : KernelIsSpelled
unfolding kernel
kernel_spelled = each_passes IsSpelledClass is_class class_says kernel refl
