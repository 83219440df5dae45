-- The directory is bare where no next slot has names.
use Rattle.dirent_keys.proofs.Walked.{bare_is}
use Rattle.dirent_keys.proofs.counts.is_bare.Goals as goal

pub returns-clause-bare : goal.returns-clause-bare
returns-clause-bare g c = λ keys seen.
    bare_is keys c.args.id c.args.dir c.in_ok-next_shown.field-0 c.is_none.result c.is_none.ensures (c.in_ok-next_shown.ensures.shown keys seen) c.in_ok-next_shown.ensures.some c.in_ok-next_shown.ensures.fits
