-- Arguments and locals, as rules and runs find them.
use Rattle.std.proofs.Common.{◌≡◌, ℕ, Bool, true, false, List, [], ◌∷◌, ◌++◌, map, Option, Some, None, refl, sym, ap, subst, ◌∙◌, inl, inr, ⊎_elim}
use Rattle.std.specs.Prelude.{◌⊎◌, ◌||◌, cond, find}
use Rattle.std.specs.Option.{option_map}
use Rattle.std.specs.Str.{bytes_eq}
use Rattle.eif_tree.specs.declared.tree.NameAt.{NameAt}
use Rattle.eif_tree.specs.Members.{has_name}
use Rattle.eif_tree.specs.Tree.{TypeT, GroupT, DeclT, ClassT}
use Rattle.eif_classes.specs.Features.{local_groups}
use Rattle.eif_classes.specs.Resolution.{resolved}
use Rattle.eif_classes.specs.Types.{TyT}
use Rattle.eif_body_rules.specs.EntityRules.{entity_at, entities_of, arguments_of, locals_of}
use Rattle.eif_body_rules.specs.Settings as rules
use Rattle.eif_meaning.specs.Frames.{type_in, entity_by, argument, local, entity}

pub append_assoc : {A : Type 0} (xs ys zs : List A) → (xs ++ ys) ++ zs ≡ xs ++ (ys ++ zs)
append_assoc [] ys zs = refl
append_assoc (x ∷ xs) ys zs = ap (λ l. x ∷ l) (append_assoc xs ys zs)

pub append_none : {A : Type 0} (xs : List A) → xs ++ [] ≡ xs
append_none [] = refl
append_none (x ∷ xs) = ap (λ l. x ∷ l) (append_none xs)

module _ (u : List ClassT) (c : ClassT) where
  abbrev first_of : List rules.Entity → List ℕ → Option rules.Entity
  first_of es x = find (λ e. bytes_eq e.name x) es

  -- a name of a group
  abbrev IsFound : Bool → TyT → Option rules.Entity → Type 0
  IsFound b t o = (e : rules.Entity) × (o ≡ Some e) × (e.type ≡ t) × (e.is_local ≡ b)

  abbrev InGroup : Bool → TyT → List NameAt → List ℕ → List rules.Entity → Type 0
  InGroup b t ns x rest =
      ((has_name ns x ≡ true) × IsFound b t (first_of (map (entity_at b t) ns ++ rest) x))
      ⊎ ((has_name ns x ≡ false) × (first_of (map (entity_at b t) ns ++ rest) x ≡ first_of rest x))

  found_or : (b a : Bool) (t : TyT) (n : NameAt) (h : Bool) (o rest : Option rules.Entity)
      → ((h ≡ true) × IsFound b t o) ⊎ ((h ≡ false) × (o ≡ rest))
      → (((a || h) ≡ true) × IsFound b t (cond a (Some (entity_at b t n)) o))
      ⊎ (((a || h) ≡ false) × (cond a (Some (entity_at b t n)) o ≡ rest))
  found_or b true t n h o rest p = inl (refl, (entity_at b t n, refl, refl, refl))
  found_or b false t n h o rest p = p

  in_group : (b : Bool) (t : TyT) (ns : List NameAt) (x : List ℕ) (rest : List rules.Entity) → InGroup b t ns x rest
  in_group b t [] x rest = inr (refl, refl)
  in_group b t (n ∷ ns) x rest =
      found_or b (bytes_eq n.name x) t n (has_name ns x) (first_of (map (entity_at b t) ns ++ rest) x)
      (first_of rest x)
      (in_group b t ns x rest)

  abbrev InGroups : Bool → List GroupT → List ℕ → List rules.Entity → Type 0
  InGroups b gs x rest =
      ((t : TypeT) × (type_in gs x ≡ Some t) × IsFound b (resolved u c t) (first_of (entities_of u c b gs ++ rest) x))
      ⊎ ((type_in gs x ≡ None) × (first_of (entities_of u c b gs ++ rest) x ≡ first_of rest x))

  in_groups : (b : Bool) (gs : List GroupT) (x : List ℕ) (rest : List rules.Entity) → InGroups b gs x rest
  in_groups b [] x rest = inr (refl, refl)
  in_groups b (g ∷ gs) x rest =
      let t = resolved u c g.type_tree in
      let more = entities_of u c b gs in
      let e = ap (λ l. first_of l x) (append_assoc (map (entity_at b t) g.names) more rest) in
      ⊎_elim
      (λ p. inl (
        g.type_tree,
        ap (λ h. option_map (λ g. g.type_tree) (cond h (Some g) (find (λ g. has_name g.names x) gs))) p.0,
        subst (IsFound b t) (sym e) p.1,
      ))
      (λ p. ⊎_elim
      (λ q. inl (
        q.0,
        ap (λ h. option_map (λ g. g.type_tree) (cond h (Some g) (find (λ g. has_name g.names x) gs))) p.0 ∙ q.1,
        subst (IsFound b (resolved u c q.0)) (sym (e ∙ p.1)) q.2,
      ))
      (λ q. inr (
        ap (λ h. option_map (λ g. g.type_tree) (cond h (Some g) (find (λ g. has_name g.names x) gs))) p.0 ∙ q.0,
        e ∙ (p.1 ∙ q.1),
      ))
      (in_groups b gs x rest))
      (in_group b t g.names x (more ++ rest))

  -- what a name of a body is
  abbrev pub IsArgument : DeclT → List ℕ → Option rules.Entity → Type 0
  IsArgument d x o = (t : TypeT) × (entity d x ≡ Some (argument t)) × IsFound false (resolved u c t) o

  abbrev pub IsLocal : DeclT → List ℕ → Option rules.Entity → Type 0
  IsLocal d x o = (t : TypeT) × (entity d x ≡ Some (local t)) × IsFound true (resolved u c t) o

  abbrev pub IsNeither : DeclT → List ℕ → Option rules.Entity → Type 0
  IsNeither d x o = (entity d x ≡ None) × (o ≡ None)

  pub entity_cases : (d : DeclT) (x : List ℕ)
      → IsArgument d x (first_of (arguments_of u c d ++ locals_of u c d) x)
      ⊎ (IsLocal d x (first_of (arguments_of u c d ++ locals_of u c d) x)
      ⊎ IsNeither d x (first_of (arguments_of u c d ++ locals_of u c d) x))
  entity_cases d x =
      let locals = type_in (local_groups d.kind) x in
      ⊎_elim
      (λ p. inl (p.0, ap (λ o. entity_by o locals) p.1, p.2))
      (λ p. let e = ap (λ l. first_of l x) (sym (append_none (locals_of u c d))) in
      ⊎_elim
      (λ q. inr (inl (
        q.0,
        ap (λ o. entity_by o locals) p.0 ∙ ap (entity_by None) q.1,
        subst (IsFound true (resolved u c q.0)) (sym (p.1 ∙ e)) q.2,
      )))
      (λ q. inr (inr (ap (λ o. entity_by o locals) p.0 ∙ ap (entity_by None) q.0, p.1 ∙ (e ∙ q.1))))
      (in_groups true (local_groups d.kind) x []))
      (in_groups false d.arguments x (locals_of u c d))
