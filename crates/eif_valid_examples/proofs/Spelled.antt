-- The form of class texts, as lists of what holds of each part, so that it computes.
use Rattle.std.proofs.Common.{List}
use Rattle.eif_lineage_laws.proofs.EachItem.{AllOf, all_at}
use Rattle.eif_spelled_trees.specs.SpelledTrees.{Each, IsName, IsTyped, IsAlone, HasForm, IsSpelledDeclaration, IsSpelledClass, AreSpelled}
use Rattle.eif_spelled_trees.specs.WrittenTexts.{CompoundIsWritten}
use Rattle.eif_tree.specs.Members.{declarations}
use Rattle.eif_tree.specs.Tree.{KindT, attribute, constant, deferred_body, routine, GroupT, ParentT, DeclT, ClassT}

abbrev AllNames : List GroupT → Type 0
AllNames gs = AllOf (λ (g : GroupT). AllOf IsName g.names) gs

abbrev Form : DeclT → KindT → Type 0
Form x attribute = IsTyped x
Form x (constant v) = IsTyped x
Form x deferred_body = IsAlone x
Form x (routine locals body) = IsAlone x × AllNames locals × CompoundIsWritten (λ t. Unit {0}) body

abbrev pub OfDeclaration : DeclT → Type 0
OfDeclaration x = AllOf IsName x.names × AllNames x.arguments × Form x x.kind

abbrev pub OfClass : ClassT → Type 0
OfClass c = AllOf OfDeclaration (declarations c) × AllOf (λ (p : ParentT). AllOf (λ r. IsName r.new_name) p.renames) c.parents

each_from : {A : Type 0} (P : A → Type 0) (xs : List A) → AllOf P xs → Each P xs
each_from P xs h = λ i x e. all_at P xs i x h e

groups_from : (gs : List GroupT) → AllNames gs → Each (λ (g : GroupT). Each IsName g.names) gs
groups_from gs h =
    λ i g e. each_from IsName g.names (all_at (λ (g : GroupT). AllOf IsName g.names) gs i g h e)

declaration_from : (x : DeclT) → OfDeclaration x → IsSpelledDeclaration x
declaration_from x h = record {
  names = each_from IsName x.names h.0;
  arguments = groups_from x.arguments h.1;
  form = go x.kind h.2;
}
  where
    go : (k : KindT) → Form x k → HasForm x k
    go attribute f = f
    go (constant v) f = f
    go deferred_body f = f
    go (routine locals body) f = (f.0, groups_from locals f.1, f.2)

class_from : (c : ClassT) → OfClass c → IsSpelledClass c
class_from c h = record {
  declared = λ i x e. declaration_from x (all_at OfDeclaration (declarations c) i x h.0 e);
  renamed = λ i p e.
      each_from (λ r. IsName r.new_name) p.renames
      (all_at (λ (p : ParentT). AllOf (λ r. IsName r.new_name) p.renames) c.parents i p h.1 e);
}

pub spelled_from : (given : List ClassT) → AllOf OfClass given → AreSpelled given
spelled_from given h = λ i c e. class_from c (all_at OfClass given i c h e)
