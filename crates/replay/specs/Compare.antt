-- Kept replies, compared with those of a replay.
use Rattle.std.specs.Option.{option_or}
use Rattle.std.specs.Prelude.{ℕ, ◌+◌, Bool, ◌&&◌, ◌||◌, List, [], ◌∷◌, ◌++◌, ◌==◌, nat_le, nat_lt, if◌then◌else◌, Option, Some, None, Result, Ok, Err, slice_get, slice_index_or, codes, decimal}
use Rattle.std.specs.List.{list_any}
use Rattle.hex.specs.Hex.{encode_lower}
use Rattle.store_model.specs.Weave.{Woven, Misfit}
use Rattle.plain_store.specs.declared.frees.Free.{Free}
use Rattle.replay.specs.declared.difference.Unequal.{Unequal}

-- whether a place of a lane's replies is one of the 40 bytes that are free
abbrev pub covers : ℕ → ℕ → Free → Bool
covers lane place f = (f.lane == lane) && nat_le f.place place && nat_lt place (f.place + 40)

abbrev pub is_free : List Free → ℕ → ℕ → Bool
is_free frees lane place = list_any (covers lane place) frees

abbrev pub unequal : ℕ → ℕ → Option ℕ → Option ℕ → Unequal
unequal lane place replayed kept = record { lane = lane; place = place; replayed = replayed; kept = kept }

-- from a place of a lane on, the first byte at which what is replayed and what was kept differ
unfoldable pub differs_from : List Free → ℕ → ℕ → List ℕ → List ℕ → Option Unequal
differs_from frees lane place [] [] = None
differs_from frees lane place [] (b ∷ kept) = Some (unequal lane place None (Some b))
differs_from frees lane place (a ∷ replayed) [] = Some (unequal lane place (Some a) None)
differs_from frees lane place (a ∷ replayed) (b ∷ kept) =
    if (a == b) || is_free frees lane place then differs_from frees lane (place + 1) replayed kept else
    Some (unequal lane place (Some a) (Some b))

-- of the lanes from this one on, that of the first that differs; replies are by lane
unfoldable pub first_unequal : List Free → List (List ℕ) → ℕ → List (List ℕ) → Option Unequal
first_unequal frees replies lane [] = None
first_unequal frees replies lane (kept ∷ others) =
    option_or (differs_from frees lane 0 (slice_index_or replies lane []) kept) (first_unequal frees replies (lane + 1) others)

-- an entry of this lane does not fit, behind so many bytes of its replies
abbrev pub misfit_at : Misfit → Option ℕ → Unequal
misfit_at m kept = unequal m.lane m.replayed None kept

-- where a replay and the kept replies differ first, but for the bytes that are free
abbrev pub compare : Result Woven Misfit → List Free → List (List ℕ) → Option Unequal
compare (Ok woven) frees kept = first_unequal frees woven.replies 0 kept
compare (Err m) frees kept = Some (misfit_at m (slice_get (slice_index_or kept m.lane []) m.replayed))

-- ---- the line that tells it

abbrev pub shown : Option ℕ → List ℕ
shown None = codes "--"
shown (Some b) = encode_lower (b ∷ [])

abbrev pub line : Option Unequal → List ℕ
line None = codes "equal\n"
line (Some u) =
    codes "lane " ++ decimal u.lane ++ codes " byte " ++ decimal u.place ++ codes ": " ++ shown u.replayed ++ codes " " ++ shown u.kept ++ codes "\n"
