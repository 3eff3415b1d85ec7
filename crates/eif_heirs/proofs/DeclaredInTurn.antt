-- The names that a class text declares, one more after those so far.
use Rattle.std.proofs.Common.{◌≡◌, ℕ, ◌<◌, List, [], ◌∷◌, ◌++◌, length, map, get_or, Some, refl, sym, ap, ap₂, subst, ◌∙◌, append_assoc}
use Rattle.std.specs.Prelude.{flat_map, slice_get}
use Rattle.std.specs.Option.{option_map, option_and_then}
use Rattle.std.proofs.lemmas.Grind.{flat_map-append}
use Rattle.std.proofs.lemmas.List.{flat_map_more, map-append}
use Rattle.std.proofs.lemmas.Option.{slice_get-get_or, slice_get-map}
use Rattle.eif_feature_rules.specs.RuleForms as rules
use Rattle.eif_feature_rules.specs.RuleForms.{declared_here, names_of_declaration}
use Rattle.eif_heirs.specs.DeclaredNames.{IsDeclaredName}
use Rattle.eif_heirs.specs.declared.declared.DeclaredName.{DeclaredName}
use Rattle.eif_rows.proofs.Matches.{Match-push, Match-weaken, map-from_Match}
use Rattle.eif_rows.specs.Matched.{Match}
use Rattle.eif_rows.specs.Rows.{declaration_at}
use Rattle.eif_tree.specs.Members.{declarations, declared_names}
use Rattle.eif_tree.specs.Tree.{DeclT, FeaturesT, ClassT}
use Rattle.eif_tree.specs.declared.tree.NameAt.{NameAt}

-- ---- places in lists

-- the item that an index reads
pub item_here : {A : Type 0} (xs : List A) (i : ℕ) (x : A) → i < length xs → x ≡ get_or xs i x → slice_get xs i ≡ Some x
item_here xs i x below is = slice_get-get_or xs i x below ∙ ap Some (sym is)

-- the same of what is made of each
pub view_here : {A B : Type 0} (v : A → B) (xs : List A) (i : ℕ) (x : A) → i < length xs → x ≡ get_or xs i x
    → slice_get (map v xs) i ≡ Some (v x)
view_here v xs i x below is = slice_get-map v xs i ∙ ap (option_map v) (item_here xs i x below is)

-- what is made of one item more
pub views_more : {A B C : Type 0} (v : A → B) (f : B → List C) (before : List C) (xs : List A) (x : A)
    → (before ++ flat_map f (map v xs)) ++ f (v x) ≡ before ++ flat_map f (map v (xs ++ x ∷ []))
views_more v f before xs x =
    flat_map_more f before (map v xs) (v x) ∙ ap (λ ys. before ++ flat_map f ys) (sym (map-append v xs (x ∷ [])))

-- ---- names of declarations

-- the name n of the declaration x
abbrev pub named : DeclT → NameAt → rules.DeclaredName
named x n = record { name = n; tree = x }

names_more : (x : DeclT) (before : List rules.DeclaredName) (ns : List NameAt) (n : NameAt)
    → (before ++ map (named x) ns) ++ named x n ∷ [] ≡ before ++ map (named x) (ns ++ n ∷ [])
names_more x before ns n =
    append_assoc before (map (named x) ns) (named x n ∷ [])
    ∙ ap (λ ys. before ++ ys) (sym (map-append (named x) ns (n ∷ [])))

pub name_more : (c : ClassT) (x : DeclT) (before : List rules.DeclaredName) (ns : List NameAt) (n : NameAt)
    (out new : List DeclaredName) (item : DeclaredName) → new ≡ out ++ item ∷ [] → IsDeclaredName c item (named x n)
    → Match (IsDeclaredName c) out (before ++ map (named x) ns)
    → Match (IsDeclaredName c) new (before ++ map (named x) (ns ++ n ∷ []))
name_more c x before ns n out new item pushed is h =
    subst (λ ys. Match (IsDeclaredName c) new ys) (names_more x before ns n)
    (subst (λ xs. Match (IsDeclaredName c) xs ((before ++ map (named x) ns) ++ named x n ∷ [])) (sym pushed)
    (Match-push (IsDeclaredName c) out (before ++ map (named x) ns) item (named x n) h is))

-- the declaration at a place of a part
pub declared_at : (c : ClassT) (part : FeaturesT) (x : DeclT) (i j : ℕ) → slice_get c.features i ≡ Some part
    → slice_get part.decls j ≡ Some x → declaration_at c (Some (record { part = i; place = j })) ≡ Some x
declared_at c part x i j e f = ap (option_and_then (λ (part : FeaturesT). slice_get part.decls j)) e ∙ f

-- the names of a part
abbrev pub names_of_part : FeaturesT → List rules.DeclaredName
names_of_part part = flat_map names_of_declaration part.decls

names_by_part : (parts : List FeaturesT)
    → flat_map names_of_declaration (flat_map (λ part. part.decls) parts) ≡ flat_map names_of_part parts
names_by_part [] = refl
names_by_part (part ∷ parts) =
    flat_map-append names_of_declaration part.decls (flat_map (λ part. part.decls) parts)
    ∙ ap (λ ys. names_of_part part ++ ys) (names_by_part parts)

pub here_by_part : (c : ClassT) → flat_map names_of_part c.features ≡ declared_here c
here_by_part c = sym (names_by_part c.features)

-- ---- the names alone

names_of_one : (x : DeclT) (ns : List NameAt) → map (λ (y : rules.DeclaredName). y.name) (map (named x) ns) ≡ ns
names_of_one x [] = refl
names_of_one x (n ∷ ns) = ap (λ ms. n ∷ ms) (names_of_one x ns)

names_of_all : (xs : List DeclT)
    → map (λ (y : rules.DeclaredName). y.name) (flat_map names_of_declaration xs) ≡ flat_map (λ x. x.names) xs
names_of_all [] = refl
names_of_all (x ∷ xs) =
    map-append (λ (y : rules.DeclaredName). y.name) (names_of_declaration x) (flat_map names_of_declaration xs)
    ∙ ap₂ ◌++◌ (names_of_one x x.names) (names_of_all xs)

pub names_declared : (c : ClassT) (xs : List DeclaredName) → Match (IsDeclaredName c) xs (declared_here c)
    → map (λ (x : DeclaredName). x.name.now) xs ≡ declared_names c
names_declared c xs h =
    map-from_Match (λ (x : DeclaredName). x.name.now) (λ (y : rules.DeclaredName). y.name) xs (declared_here c)
    (Match-weaken (IsDeclaredName c) (λ x y. x.name.now ≡ y.name) (λ x y is. is.name_is) xs (declared_here c) h)
    ∙ names_of_all (declarations c)
