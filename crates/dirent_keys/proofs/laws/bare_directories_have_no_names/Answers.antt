use Rattle.dirent_keys.proofs.Walked.{bare_has_none, none_is_bare}
use Rattle.dirent_keys.proofs.laws.bare_directories_have_no_names.Goals as goal

pub returns : goal.returns
returns c = λ keys id directory joined live. (bare_has_none keys id directory joined live, none_is_bare keys id directory joined live)
