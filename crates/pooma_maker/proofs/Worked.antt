-- Draws and lines that are known from elsewhere, computed from the definitions.
use Rattle.std.proofs.Common.{◌≡◌, [], ◌∷◌, codes, map, refl}
use Rattle.std.specs.Fmt.{digits}
use Rattle.pooma_maker.specs.Draws.{draw}
use Rattle.pooma_maker.specs.Script.{drawn_line}

draws_from_0 : map (draw 0) (0 ∷ 1 ∷ 2 ∷ 3 ∷ []) ≡ 0 ∷ 21468 ∷ 9988 ∷ 22117 ∷ []
draws_from_0 = refl

draws_from_1 : map (draw 1) (0 ∷ 1 ∷ 2 ∷ 3 ∷ []) ≡ 16838 ∷ 5758 ∷ 10113 ∷ 17515 ∷ []
draws_from_1 = refl

lines_from_0 : map (drawn_line 0) (0 ∷ 1 ∷ []) ≡ codes "A = (U[-1:62,0:63] + U[1:64,0:63]) % 1009" ∷ codes "A += B[63:0:-1,0:63] % 101 + 17" ∷ []
unfolding digits
lines_from_0 = refl

lines_from_1 : map (drawn_line 1) (0 ∷ 1 ∷ []) ≡ codes "U = (A + B) % 997 + 58" ∷ codes "B = where(A < U, A, U + 15)" ∷ []
unfolding digits
lines_from_1 = refl
