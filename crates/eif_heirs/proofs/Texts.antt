-- The names of a class, by its declared names and its clauses.
use Rattle.std.proofs.Common.{◌≡◌, ℕ, List, [], ◌∷◌, ◌++◌, map, Option, Some, None, refl, sym, ap, ap₂, ◌∙◌}
use Rattle.std.specs.Prelude.{flat_map}
use Rattle.std.proofs.lemmas.List.{map-append}
use Rattle.eif_adapt.specs.Adaptations.{adapted, entry_view}
use Rattle.eif_classes.specs.Entries.{Entry, Feature, entry}
use Rattle.eif_classes.specs.Features.{declaration_of, entries, feature_by, features, names}
use Rattle.eif_classes.specs.Names.{final_name, name_set}
use Rattle.eif_feature_rules.specs.ParentFeatures.{parent_feature}
use Rattle.eif_feature_rules.specs.RuleForms as rules
use Rattle.eif_feature_rules.specs.RuleForms.{declared_here, names_of_declaration}
use Rattle.eif_heirs.specs.Clauses.{IsClause}
use Rattle.eif_heirs.specs.DeclaredNames.{IsDeclaredName}
use Rattle.eif_heirs.specs.Numbered.{clause_finals, declared_texts, final_texts}
use Rattle.eif_heirs.specs.declared.clauses.Clause.{Clause}
use Rattle.eif_heirs.specs.declared.declared.DeclaredName.{DeclaredName}
use Rattle.eif_rows.specs.Matched.{Match}
use Rattle.eif_rows.proofs.Matches.{Match-weaken, map-from_Match}
use Rattle.eif_system.specs.Inheritance.{parent_number}
use Rattle.eif_system.specs.Lineage.{Line, Ups, line, line_by, line_of, ups_by}
use Rattle.eif_tree.specs.Members.{declarations, declared_names}
use Rattle.eif_tree.specs.Tree.{ClassT, DeclT, ParentT}
use Rattle.eif_tree.specs.declared.tree.NameAt.{NameAt}

pub map_twice : {A B C : Type 0} (g : B → C) (f : A → B) (xs : List A) → map g (map f xs) ≡ map (λ x. g (f x)) xs
map_twice g f [] = refl
map_twice g f (x ∷ xs) = ap (λ zs. g (f x) ∷ zs) (map_twice g f xs)

-- ---- the class

made_named : (make : List ℕ → Feature) → ((n : List ℕ) → (make n).name ≡ n) → (ns : List (List ℕ))
    → map (λ f. f.name) (map make ns) ≡ ns
made_named make named [] = refl
made_named make named (n ∷ ns) = ap₂ ◌∷◌ (named n) (made_named make named ns)

feature_named : (d : ℕ) (es : List Entry) (n : List ℕ) (x : Option DeclT) → (feature_by d es n x).name ≡ n
feature_named d es n (Some x) = refl
feature_named d es n None = refl

pub names_of_line : (d : ℕ) (c : ClassT) (ups : Ups)
    → names (line d c ups) ≡ name_set (map (λ n. n.name) (declared_names c) ++ map (λ e. e.final) (entries ups))
names_of_line d c ups =
    made_named (λ n. feature_by d (entries ups) n (declaration_of c n))
    (λ n. feature_named d (entries ups) n (declaration_of c n)) _

-- ---- its declared names

names_of_one : (x : DeclT) (ns : List NameAt)
    → map (λ (y : rules.DeclaredName). y.name.name) (map (λ n. record { name = n; tree = x }) ns) ≡ map (λ n. n.name) ns
names_of_one x [] = refl
names_of_one x (n ∷ ns) = ap (λ zs. n.name ∷ zs) (names_of_one x ns)

names_declared : (ds : List DeclT) → map (λ y. y.name.name) (flat_map names_of_declaration ds)
    ≡ map (λ n. n.name) (flat_map (λ d. d.names) ds)
names_declared [] = refl
names_declared (d ∷ ds) =
    map-append (λ y. y.name.name) (names_of_declaration d) (flat_map names_of_declaration ds)
    ∙ (ap₂ ◌++◌ (names_of_one d d.names) (names_declared ds)
    ∙ sym (map-append (λ n. n.name) d.names (flat_map (λ d. d.names) ds)))

pub texts_declared : (c : ClassT) (xs : List DeclaredName) → Match (IsDeclaredName c) xs (declared_here c)
    → declared_texts xs ≡ map (λ y. y.name.name) (declared_here c)
texts_declared c xs h = map-from_Match (λ x. x.name.now.name) (λ y. y.name.name) xs (declared_here c)
    (Match-weaken (IsDeclaredName c) (λ x y. x.name.now.name ≡ y.name.name) (λ x y is. ap (λ n. n.name) is.name_is)
    xs (declared_here c) h)

-- ---- the final names of its entries

module _ (u : List ClassT) (c : ClassT) where
  -- the line of the class of a clause
  abbrev pub line_up : ParentT → Line
  line_up p = line_by (line_of u) (parent_number u c p)

  pub finals_of_clause : (x : Clause) (p : ParentT) → IsClause u c x p
      → clause_finals x ≡ map (λ e. e.final) (map (entry p) (features (line_up p)))
  finals_of_clause x p is =
      sym (map_twice (λ a. a.final_name) entry_view x.adapted.items)
      ∙ (ap (map (λ a. a.final_name)) is.adapted_is
      ∙ (map_twice (λ a. a.final_name) (adapted p) (map parent_feature (features (line_of u x.parent.0)))
      ∙ (map_twice (λ f. final_name p f.name) parent_feature (features (line_of u x.parent.0))
      ∙ (ap (λ l. map (λ f. final_name p f.name) (features (line_by (line_of u) l))) (sym is.parent_is)
      ∙ sym (map_twice (λ e. e.final) (entry p) (features (line_up p)))))))

  pub texts_final : (xs : List Clause) (ps : List ParentT) → Match (IsClause u c) xs ps
      → final_texts xs ≡ map (λ e. e.final) (entries (ups_by line_up ps))
  texts_final [] [] h = refl
  texts_final [] (p ∷ ps) h = absurd h
  texts_final (x ∷ xs) [] h = absurd h
  texts_final (x ∷ xs) (p ∷ ps) h =
      ap₂ ◌++◌ (finals_of_clause x p h.0) (texts_final xs ps h.1)
      ∙ sym (map-append (λ e. e.final) (map (entry p) (features (line_up p))) (entries (ups_by line_up ps)))

  -- the names of the class
  pub class_texts : (d : ℕ) (xs : List DeclaredName) (ys : List Clause) (ps : List ParentT)
      → Match (IsDeclaredName c) xs (declared_here c) → Match (IsClause u c) ys ps
      → name_set (declared_texts xs ++ final_texts ys) ≡ names (line d c (ups_by line_up ps))
  class_texts d xs ys ps h k =
      ap₂ (λ ns ms. name_set (ns ++ ms)) (texts_declared c xs h ∙ names_declared (declarations c)) (texts_final ys ps k)
      ∙ sym (names_of_line d c (ups_by line_up ps))
