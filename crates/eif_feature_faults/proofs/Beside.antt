-- The first rule that a declared name breaks, and the entries of a name by their numbers.
use Rattle.std.proofs.Common.{◌≡◌, ℕ, ◌+◌, ◌≤◌, Bool, true, false, List, [], ◌∷◌, ◌++◌, length, map, take, get_or}
use Rattle.std.proofs.Common.{Option, Some, None, refl, sym, ap, ap₂, subst, ◌∙◌, arith}
use denote.Ref.{Bor}
use Rattle.std.specs.Prelude.{◌&&◌, ◌||◌, flat_map, slice_get, IfNone, IfSome}
use Rattle.std.specs.List.{list_any}
use Rattle.std.specs.Option.{option_map}
use Rattle.std.specs.Slice.{IsItemAt}
use Rattle.std.specs.Str.{bytes_eq}
use Rattle.std.proofs.lemmas.List.{length-map, map-append, take_all}
use Rattle.std.proofs.lemmas.List.Folds.{list_any-append, list_any_at}
use Rattle.std.proofs.lemmas.Option.{get_or_from_slice_get, none-some, same_Some, slice_get-map, slice_get_within}
use Rattle.eif_base.specs.Numbering.{is_among}
use Rattle.eif_base.specs.declared.code.Code.TheVariants as broken
use Rattle.eif_base.specs.declared.fault.Fault.{Fault}
use Rattle.eif_classes.specs.Entries.{Entry, Feature, entries_of, lasts}
use Rattle.eif_classes.specs.Features.{declaration_of, entries, feature_by, names}
use Rattle.eif_classes.specs.Names.{name_set}
use Rattle.eif_feature_faults.proofs.InTurn.{lent_at, list_any-next}
use Rattle.eif_feature_faults.specs.DeclaredViews.{declared_view}
use Rattle.eif_feature_rules.specs.DeclarationRules.{declared_name_faults, fault_at_declared, is_deferred_kind, is_kept}
use Rattle.eif_feature_rules.specs.RuleForms.{DeclaredName, declared_here, names_of_declaration}
use Rattle.eif_heirs.specs.Heirs.{AreSources, IsHeir}
use Rattle.eif_heirs.specs.DeclaredNames.{IsDeclaredName}
use Rattle.eif_heirs.specs.declared.declared.DeclaredName as code
use Rattle.eif_heirs.specs.declared.heir.Heir.{Heir}
use Rattle.eif_heirs.specs.declared.heir.NameSources.{NameSources}
use Rattle.eif_rows.proofs.Matches.{Match-at, Match-at_second, Match-from_map}
use Rattle.eif_rows.proofs.NameSets.{is_among-from_place, is_among-name_set}
use Rattle.eif_rows.specs.Matched.{Match}
use Rattle.eif_rules.specs.FaultForms.{fault_where}
use Rattle.eif_system.specs.Lineage.{line, line_of, Ups}
use Rattle.eif_tree.specs.Members.{declarations, declared_names}
use Rattle.eif_tree.specs.Tree.{ClassT, DeclT}
use Rattle.eif_tree.specs.View.{class_view}
use Rattle.eif_tree.specs.declared.tree.NameAt.{NameAt}

module _ (c : ClassT) (es : List Entry) (earlier : List DeclaredName) (x : DeclaredName) where
  abbrev pub repeated : Bool
  repeated = list_any (λ e. bytes_eq e.name.name x.name.name) earlier

  abbrev pub again : Bool
  again = is_deferred_kind x.tree.kind && list_any lasts (entries_of x.name.name es)

  abbrev pub over : Bool
  over = list_any is_kept (entries_of x.name.name es)

  abbrev told : Bool → Bool → Bool → List Fault
  told a b d =
      take 1 (fault_where a (fault_at_declared c broken.Vmfn 1 x.name)
      ++ fault_where b (fault_at_declared c broken.Vdrs 4 x.name)
      ++ fault_where d (fault_at_declared c broken.Vmfn 2 x.name))

  pub first_told : repeated ≡ true → fault_at_declared c broken.Vmfn 1 x.name ∷ [] ≡ declared_name_faults c es earlier x
  first_told e = sym (ap (λ a. told a again over) e)

  pub second_told : repeated ≡ false → again ≡ true
      → fault_at_declared c broken.Vdrs 4 x.name ∷ [] ≡ declared_name_faults c es earlier x
  second_told e f = sym (ap (λ a. told a again over) e ∙ ap (λ b. told false b over) f)

  pub third_told : repeated ≡ false → again ≡ false → over ≡ true
      → fault_at_declared c broken.Vmfn 2 x.name ∷ [] ≡ declared_name_faults c es earlier x
  third_told e f g =
      sym (ap (λ a. told a again over) e ∙ (ap (λ b. told false b over) f ∙ ap (λ d. told false false d) g))

  pub none_told : repeated ≡ false → again ≡ false → over ≡ false → [] ≡ declared_name_faults c es earlier x
  none_told e f g =
      sym (ap (λ a. told a again over) e ∙ (ap (λ b. told false b over) f ∙ ap (λ d. told false false d) g))

-- what stands at a place of a list of numbers, all of which are of something
pub numbered_at : {A B : Type 0} (f : A → Option B) (xs : List A) (ys : List B) → map f xs ≡ map Some ys
    → (i : ℕ) (x : A) → slice_get xs i ≡ Some x → (y : B) × (slice_get ys i ≡ Some y) × (f x ≡ Some y)
numbered_at f xs ys e i x at = Match-at (λ x y. f x ≡ Some y) xs ys (Match-from_map f Some xs ys e) i x at

-- a test of the items by their numbers, number by number
module _ {A B : Type 0} (f : A → Option B) (p : B → Bool) (xs : List A) (ys : List B) (are : map f xs ≡ map Some ys)
    (i : ℕ) where
  module _ (x : A) (b : Bool) (at : slice_get xs i ≡ Some x) (same : (y : B) → f x ≡ Some y → b ≡ p y) where
    pub passes_here : b ≡ true → true ≡ list_any p ys
    passes_here t =
        let y = numbered_at f xs ys are i x at in
        let here : get_or ys i y.0 ≡ y.0 = get_or_from_slice_get ys i y.0 y.0 y.1 in
        sym (list_any_at p ys i y.0 (slice_get_within ys i y.0 y.1) (ap p here ∙ (sym (same y.0 y.2) ∙ t)))

    pub fails_here : b ≡ false → list_any p (take i ys) ≡ false → list_any p (take (i + 1) ys) ≡ false
    fails_here t so_far =
        let y = numbered_at f xs ys are i x at in
        list_any-next p ys i y.0 y.1 ∙ ap₂ ◌||◌ so_far (sym (same y.0 y.2) ∙ t)

  pub fails_all : length xs ≤ i → list_any p (take i ys) ≡ false → false ≡ list_any p ys
  fails_all past none =
      let all : length ys ≤ i =
      omega (arith, length-map xs f, length-map ys (λ (y : B). Some y), ap length are) in
      sym (sym (ap (list_any p) (take_all i ys all)) ∙ none)

-- ---- what stands beside the names of a class

module _ (u : List ClassT) (h : Heir) (heir : IsHeir u h) (i : ℕ) (n : List ℕ) where
  abbrev class : ClassT
  class = class_view h.tree.now

  sources_by : (o : Option NameSources) → slice_get h.names.items i ≡ Some n → o ≡ slice_get h.sources.items i
      → (s : NameSources) × (o ≡ Some s) × AreSources u class s n
  sources_by o named is =
      let p = Match-at_second (AreSources u class) h.sources.items h.names.items heir.sources_are i n named in
      (p.0, is ∙ p.1, p.2)

  pub sources_are : (s : Bor NameSources) → slice_get h.names.items i ≡ Some n
      → Some s.now ≡ slice_get h.sources.items i → AreSources u class s.now n
  sources_are s named is =
      let p = sources_by (Some s.now) named is in
      subst (λ s. AreSources u class s n) (sym (same_Some s.now p.0 p.1)) p.2

  pub has_sources : slice_get h.names.items i ≡ Some n → None ≡ slice_get h.sources.items i → ⊥
  has_sources named is = none-some _ (sources_by None named is).1

module _ (h : Heir) (i : ℕ) (n : List ℕ) (named : slice_get h.names.items i ≡ Some n) (xs : List NameSources)
    (is : xs ≡ h.sources.items) where
  pub found_by : (r : Option (Bor NameSources)) → IsItemAt xs i r
      → IfSome r (λ s. (u : List ClassT) → IsHeir u h → AreSources u (class_view h.tree.now) s.now n)
  found_by None at = tt
  found_by (Some s) at = λ u heir.
      sources_are u h heir i n s named (lent_at xs i (Some s) at ∙ ap (λ (l : List NameSources). slice_get l i) is)

  pub none_by : (r : Option (Bor NameSources)) → IsItemAt xs i r
      → IfNone r ((u : List ClassT) → IsHeir u h → is_among (names (line_of u h.class_id.0)) n ≡ false)
  none_by None at = λ u heir.
      absurd (has_sources u h heir i n named (lent_at xs i None at ∙ ap (λ (l : List NameSources). slice_get l i) is))
  none_by (Some s) at = tt

-- ---- declared names

pub declared_views : (c : ClassT) (xs : List code.DeclaredName) (ys : List DeclaredName)
    → Match (IsDeclaredName c) xs ys → map declared_view xs ≡ ys
declared_views c [] [] h = refl
declared_views c [] (y ∷ ys) h = absurd h
declared_views c (x ∷ xs) [] h = absurd h
declared_views c (x ∷ xs) (y ∷ ys) h =
    ap₂ ◌∷◌ (λ k. record { name = h.0.name_is k; tree = h.0.tree_is k }) (declared_views c xs ys h.1)

pub declared_at : (u : List ClassT) (h : Heir) → IsHeir u h → (i : ℕ) (x : code.DeclaredName)
    → slice_get h.declared.items i ≡ Some x → slice_get (declared_here (class_view h.tree.now)) i ≡ Some (declared_view x)
declared_at u h heir i x at =
    let here = declared_here (class_view h.tree.now) in
    ap (λ ys. slice_get ys i) (sym (declared_views (class_view h.tree.now) h.declared.items here heir.declared_are))
    ∙ (slice_get-map declared_view h.declared.items i ∙ ap (option_map declared_view) at)

-- a name that the class declares is one of its names
named_here : (xs : List DeclT) → map (λ y. y.name) (flat_map names_of_declaration xs) ≡ flat_map (λ d. d.names) xs
named_here [] = refl
named_here (x ∷ xs) =
    map-append (λ (y : DeclaredName). y.name) (names_of_declaration x) (flat_map names_of_declaration xs)
    ∙ ap₂ ◌++◌ (names_of x x.names) (named_here xs)
  where
    names_of : (x : DeclT) (ns : List NameAt)
        → map (λ (y : DeclaredName). y.name) (map (λ n. record { name = n; tree = x }) ns) ≡ ns
    names_of x [] = refl
    names_of x (n ∷ ns) = ap (λ l. n ∷ l) (names_of x ns)

made_named : (make : List ℕ → Feature) → ((n : List ℕ) → (make n).name ≡ n) → (ns : List (List ℕ))
    → map (λ f. f.name) (map make ns) ≡ ns
made_named make named [] = refl
made_named make named (n ∷ ns) = ap₂ ◌∷◌ (named n) (made_named make named ns)

feature_named : (d : ℕ) (es : List Entry) (n : List ℕ) (x : Option DeclT) → (feature_by d es n x).name ≡ n
feature_named d es n (Some x) = refl
feature_named d es n None = refl

names_are : (d : ℕ) (c : ClassT) (ups : Ups) → names (line d c ups)
    ≡ name_set (map (λ n. n.name) (declared_names c) ++ map (λ e. e.final) (entries ups))
names_are d c ups =
    made_named (λ n. feature_by d (entries ups) n (declaration_of c n))
    (λ n. feature_named d (entries ups) n (declaration_of c n)) _

pub is_name : (d : ℕ) (c : ClassT) (ups : Ups) (i : ℕ) (x : DeclaredName) → slice_get (declared_here c) i ≡ Some x
    → is_among (names (line d c ups)) x.name.name ≡ true
is_name d c ups i x at =
    let name : NameAt → List ℕ = λ n. n.name in
    let inherited = map (λ (e : Entry). e.final) (entries ups) in
    let whole = map name (declared_names c) ++ inherited in
    let declared : slice_get (declared_names c) i ≡ Some x.name =
    ap (λ (ns : List NameAt). slice_get ns i) (sym (named_here (declarations c)))
    ∙ (slice_get-map (λ (y : DeclaredName). y.name) (declared_here c) i
    ∙ ap (option_map (λ (y : DeclaredName). y.name)) at) in
    let here : slice_get (map name (declared_names c)) i ≡ Some x.name.name =
    slice_get-map name (declared_names c) i ∙ ap (option_map name) declared in
    ap (λ ns. is_among ns x.name.name) (names_are d c ups)
    ∙ (is_among-name_set whole x.name.name
    ∙ (list_any-append (bytes_eq x.name.name) (map name (declared_names c)) inherited
    ∙ ap (λ b. b || is_among inherited x.name.name)
    (is_among-from_place (map name (declared_names c)) i x.name.name here)))
