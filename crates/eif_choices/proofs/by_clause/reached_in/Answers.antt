use Rattle.std.proofs.Common.{◌≡◌, [], ◌∷◌, refl, sym, subst, rules}
use Rattle.eif_choices.specs.Candidacy.{AreReachedIn}
use Rattle.eif_choices.proofs.Clauses.{reached_above, reached_itself, unreached}
use Rattle.eif_choices.proofs.Lines.{differ}
use Rattle.eif_choices.proofs.by_clause.reached_in.Goals as goal
use Rattle.eif_choices.proofs.by_clause.reached_in.Goals.{then-clause-k+in_ok-push, else-clause-k+in-Some+in_ok-push_reached, else-clause-k+in_default}
use Rattle.eif_rows.specs.AncestorRows.{reached_at}

pub returns : goal.returns
returns c =
    let x = c.args.clause.now in
    let k = c.args.k.0 in
    let f = c.args.feat in
    let out = c.if-clause-k.out.items in
    elim c.if-clause-k.branch [
      | then-clause-k+in_ok-push w ↦ (
          let e : out ≡ f ∷ [] = search rules in
          subst (λ fs. AreReachedIn x k f.0 fs) (sym e) (reached_itself x k f.0 f refl w.if-clause-k.true))
      | else-clause-k+in-Some+in_ok-push_reached w ↦ (
          let e : out ≡ reached_at w.in-Some.ancestor.now f.0 = search rules in
          subst (λ fs. AreReachedIn x k f.0 fs) (sym e)
          (reached_above x k f.0 w.in-Some.ancestor.now w.in-Some.ensures.found))
      | else-clause-k+in_default w ↦ (
          let e : out ≡ [] = search rules in
          subst (λ fs. AreReachedIn x k f.0 fs) (sym e)
          (unreached x k f.0 (differ x.parent.0 k w.if-clause-k.false) w.in_default.ensures.none))
    ]
