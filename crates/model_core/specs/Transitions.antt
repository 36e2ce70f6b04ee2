-- A chain as the list of its transitions.
use Rattle.std.specs.Prelude.{◌≡◌, ℕ, Bool, ◌≤◌, ◌&&◌, ◌==◌, if◌then◌else◌, List, map, filter, sum_by, count_by, nat_lt, slice_index}
use Rattle.std.specs.Prelude.{EachIndex}
use Rattle.std.specs.List.Sorted.{IsStrictlyIncreasing}
use Rattle.ctmc_semantics.specs.Chain.{Chain}
use Rattle.model_core.specs.Pairs.{pair_number}
use Rattle.model_core.specs.declared.rate.Rate.{Rate}

-- the rate from one state to another: 0 where no transition is
abbrev pub rate_between : List Rate → ℕ → ℕ → ℕ
rate_between rates s t = sum_by (λ r. if (r.from == s) && (r.to == t) then r.rate else 0) rates

-- the chain of these transitions over n states
abbrev pub chain_of : ℕ → List Rate → Chain
chain_of n rates = record { states = n; rate = rate_between rates }

-- the rates out of a state, added up
abbrev pub exit_sum : List Rate → ℕ → ℕ
exit_sum rates s = sum_by (λ r. if r.from == s then r.rate else 0) rates

-- no pair of states has two transitions
abbrev pub IsEachPairOnce : List Rate → Type 0
IsEachPairOnce rates = (s t : ℕ) → count_by (λ r. (r.from == s) && (r.to == t)) rates ≤ 1

-- the transitions of a state
abbrev pub row_of : List Rate → ℕ → List Rate
row_of rates s = filter (λ r. r.from == s) rates

-- the rates of these transitions into a set of states, added up
abbrev pub sum_into : (ℕ → Bool) → List Rate → ℕ
sum_into goal rates = sum_by (λ r. if goal r.to then r.rate else 0) rates

-- the transitions stand in ascending order of their pairs of states
abbrev pub IsInOrder : List Rate → Type 0
IsInOrder rates = IsStrictlyIncreasing (map (λ r. pair_number r.from r.to) rates)

-- how many transitions leave a state below s
abbrev pub count_before : List Rate → ℕ → ℕ
count_before rates s = count_by (λ r. nat_lt r.from s) rates

-- where the row of each state begins among the transitions in order, and at last how many transitions there are
abbrev pub AreRowStarts : List Rate → List ℕ → Type 0
AreRowStarts rates starts = EachIndex starts (λ s. slice_index starts s ≡ count_before rates s)
