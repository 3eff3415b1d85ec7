-- What flows need and set.
use Rattle.std.proofs.Common.{◌≡◌, Bool, true, false, refl}
use Rattle.std.specs.Prelude.{◌&&◌}
use Rattle.eif_classes.specs.Entries.{Declaration}
use Rattle.eif_flow_rules.specs.FieldSets.{FieldSet}
use Rattle.eif_flow_rules.specs.FlowTrees.{Flow, idle, reads, shows, sets, calls, in_turn, aside, one_of}
use Rattle.eif_flow_rules.specs.MetNeeds.{Within, IsMet}
use Rattle.eif_flow_rules.specs.NeedsAndSets.{Summary, set_after}
use Rattle.eif_run_sound.proofs.States.{or_left}

pub and_left : (a b : Bool) → (a && b) ≡ true → a ≡ true
and_left true b h = refl
and_left false b h = cc

pub and_right : (a b : Bool) → (a && b) ≡ true → b ≡ true
and_right true b h = h
and_right false b h = cc

pub and_both : (a b : Bool) → a ≡ true → b ≡ true → (a && b) ≡ true
and_both true b h i = i
and_both false b h i = cc

pub within_on : (s t v : FieldSet) → Within s t → Within t v → Within s v
within_on s t v f g = λ n h. g n (f n h)

module _ (all : FieldSet) (of : Declaration → Summary) where
  -- what is set stays set
  pub flow_keeps : (t : Flow) (s : FieldSet) → Within s (set_after all of t s)
  flow_keeps idle s = λ n h. h
  flow_keeps (reads p m) s = λ n h. h
  flow_keeps (shows p) s = λ n h. h
  flow_keeps (sets m) s = λ n h. or_left (s n) _ h
  flow_keeps (calls p x) s = λ n h. or_left (s n) _ h
  flow_keeps (in_turn a b) s = λ n h. flow_keeps b (set_after all of a s) n (flow_keeps a s n h)
  flow_keeps (aside a) s = λ n h. h
  flow_keeps (one_of a b) s = λ n h. and_both _ _ (flow_keeps a s n h) (flow_keeps b s n h)

  -- where all fields are set each text finds what it needs
  pub all_met : (t : Flow) (s : FieldSet) → Within all s → IsMet all of t s
  all_met idle s w = tt
  all_met (reads p m) s w = λ n h. w n (and_left (all n) _ h)
  all_met (shows p) s w = w
  all_met (sets m) s w = tt
  all_met (calls p x) s w = λ n h. w n (and_left (all n) _ h)
  all_met (in_turn a b) s w = (all_met a s w, all_met b (set_after all of a s) (λ n h. flow_keeps a s n (w n h)))
  all_met (aside a) s w = all_met a s w
  all_met (one_of a b) s w = (all_met a s w, all_met b s w)
