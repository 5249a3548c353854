use Rattle.std.proofs.Common.{ℕ, ℤ, ◌<◌, ◌<ℤ◌, slice_index_or}
use Rattle.pooma_script.proofs.layout.is_ascending.Given as goal

-- so far each number is above those before it
abbrev pub invariant-loop-k : goal.invariant-loop-k
invariant-loop-k l = (i j : ℕ) (d : ℤ) → i < j → j < l.k → slice_index_or l.cuts i d <ℤ slice_index_or l.cuts j d
