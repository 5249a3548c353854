-- Words that are numbers.
use Rattle.std.proofs.Common.{◌≡◌, ℕ, ◌≤◌, ◌<◌, ◌^◌, List, Result, Ok, Err, arith}
use Rattle.std.specs.Fmt.{decimal}
use Rattle.std.specs.Str.Parse.{ParsesUnsigned}
use Rattle.std.proofs.lemmas.Fmt.{parse-decimal}

-- the text of a number is read as this number
pub read_as : {E : Type 0} (word : List ℕ) (r : Result ℕ E) (most n : ℕ) → ParsesUnsigned 32 10 word r → most < 2 ^ 32 → n ≤ most → word ≡ decimal n → r ≡ Ok n
read_as word r most n parsed small within is = parse-decimal 32 n word r (omega arith) (omega arith) is parsed

-- a word that is read as no number is the text of none
pub not_read : {E : Type 0} (word : List ℕ) (r : Result ℕ E) (e : E) (most n : ℕ) → r ≡ Err e → ParsesUnsigned 32 10 word r → most < 2 ^ 32 → n ≤ most → word ≡ decimal n → ⊥
not_read word r e most n err parsed small within is = let read = read_as word r most n parsed small within is in cc

-- and one that is read as some number is the text of no other
pub read_alone : {E : Type 0} (word : List ℕ) (r : Result ℕ E) (number most n : ℕ) → r ≡ Ok number → ParsesUnsigned 32 10 word r → most < 2 ^ 32 → n ≤ most → word ≡ decimal n → n ≡ number
read_alone word r number most n ok parsed small within is = let read = read_as word r most n parsed small within is in cc
