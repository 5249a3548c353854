-- What a contract sees of the two ends of a deque.
use Rattle.std.specs.Prelude.{ℕ, Bool, List}

-- the numbers that the owner put, those that it was given, and whether a thief was made
pub record OwnerLists : Type 0 where
  pub put : List ℕ
  pub given : List ℕ
  pub robbed : Bool

-- the numbers that its owner had put and been given when the thief was made, and those that the thief was given
pub record ThiefLists : Type 0 where
  pub put_before : List ℕ
  pub given_before : List ℕ
  pub given : List ℕ

abbrev pub of_owner : List ℕ → List ℕ → Bool → OwnerLists
of_owner put given robbed = record { put = put; given = given; robbed = robbed }

abbrev pub of_thief : List ℕ → List ℕ → List ℕ → ThiefLists
of_thief put_before given_before given = record { put_before = put_before; given_before = given_before; given = given }
