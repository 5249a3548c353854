-- The script of a seed and a number of lines.
use Rattle.std.specs.Prelude.{ℕ, ◌+◌, ◌*◌, ◌%◌, List, [], ◌∷◌, ◌++◌, codes, decimal, map, slice_index_or}
use Rattle.std.specs.List.{range_with_len}
use Rattle.pooma_text.specs.Lines.{LINE_END, ended}
use Rattle.pooma_maker.specs.Draws.{draw}

-- a layout in patches, two arrays and a field on it, and first numbers
abbrev pub head : List (List ℕ)
head =
    codes "layout L (0:63,0:63) blocks (4,4) internal (1,1) external (1,1)"
    ∷ codes "array A on L"
    ∷ codes "array B on L"
    ∷ codes "field U on L faces periodic, periodic, reflect, reflect"
    ∷ codes "A = index(0) + 2 * index(1)"
    ∷ codes "U = index(0) * index(1) % 17"
    ∷ []

-- the line of each kind, with this constant
abbrev pub lines_by_kind : ℕ → List (List ℕ)
lines_by_kind c =
    codes "A = (U[-1:62,0:63] + U[1:64,0:63]) % 1009"
    ∷ codes "B[0:62:2,0:63] = A[1:63:2,0:63]"
    ∷ (codes "U = (A + B) % 997 + " ++ decimal c)
    ∷ (codes "B = where(A < U, A, U + " ++ decimal c ++ codes ")")
    ∷ (codes "A += B[63:0:-1,0:63] % 101 + " ++ decimal c)
    ∷ (codes "U[0:31,0:63] = U[32:63,0:63] + " ++ decimal c)
    ∷ []

-- the line of a kind, counted from 0, with a constant
abbrev pub line_of : ℕ → ℕ → List ℕ
line_of kind c = slice_index_or (lines_by_kind c) kind []

-- Each line takes two draws: the first gives its kind, the second its constant.
abbrev pub drawn_line : ℕ → ℕ → List ℕ
drawn_line seed place = line_of (draw seed (2 * place) % 6) (draw seed (2 * place + 1) % 100)

-- the sums of all arrays
abbrev pub foot : List (List ℕ)
foot =
    codes "scalar t = sum(A)"
    ∷ codes "print t"
    ∷ codes "scalar t = sum(B)"
    ∷ codes "print t"
    ∷ codes "scalar t = sum(U)"
    ∷ codes "print t"
    ∷ []

-- a line with its end
abbrev pub with_end : List ℕ → List ℕ
with_end line = line ++ LINE_END ∷ []

-- The head, so many lines, and the foot.
unfoldable pub made_script : ℕ → ℕ → List ℕ
made_script seed lines = ended (head ++ map (drawn_line seed) (range_with_len 0 lines) ++ foot)
