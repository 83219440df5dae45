use Rattle.std.proofs.Common.{ℕ, ◌-◌, ◌*◌, ◌<◌, ◌≤◌, arith}
use Rattle.std.specs.Prelude.{◌&&◌, nat_le, nat_lt}
use Rattle.std.specs.List.{slice_index_or}
use Rattle.extent_ops.specs.Content.{given_by}
use Rattle.file_plan.specs.Sizes.{blocks_up_to}
use Rattle.vol_types.specs.Limits.{block_size}
use Rattle.content_steps.proofs.files.planned_contents_change_files.Goals as goal

pub returns : goal.returns
returns c = record {
  put = λ keys updates nodes layout read sub file size old extents change kept leaf may shows of_file takes grows within content. record {
    shows = shows;
    of_file = of_file;
    steps = c.blocks_are_steps.ensures.put keys nodes layout sub.id file updates (given_by extents) kept leaf may takes.blocks;
    own = may.own;
    fits = may.fits;
    ends = λ block behind. takes.ends block (omega (arith, grows, behind)) (λ k d lt. below (slice_index_or extents k d).pos.offset block size (within k d lt) behind);
    content = content;
  };
  cut = λ keys updates nodes layout read sub file size old change kept leaf may shows of_file loses content. record {
    shows = shows;
    of_file = of_file;
    steps = c.blocks_are_steps.ensures.cut keys nodes layout sub.id file updates (λ block. nat_le (blocks_up_to size) block && nat_lt block (blocks_up_to old.size)) kept leaf may loses.blocks;
    own = may.own;
    fits = may.fits;
    ends = loses.ends;
    content = content;
  };
}
  where
    below : (end block size : ℕ) → (end - 1) * block_size < size → size ≤ block * block_size → end ≤ block
    below end block size low high = omega (arith, low, high)
