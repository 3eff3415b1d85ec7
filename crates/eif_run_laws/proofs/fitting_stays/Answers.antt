use Rattle.eif_run_laws.proofs.Fitting.{fits_conforming, fits_attached, start_fits}
use Rattle.eif_run_laws.proofs.Growing.{fits_grown}
use Rattle.eif_run_laws.proofs.fitting_stays.Goals as goal

pub returns-clause-stays : goal.returns-clause-stays
returns-clause-stays c = record {
  grown = fits_grown;
  conforming = fits_conforming;
  attached = fits_attached;
}

pub returns-clause-start : goal.returns-clause-start
returns-clause-start c = λ system laws h xs t v e. start_fits system laws h xs t v e
