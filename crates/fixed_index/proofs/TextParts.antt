-- The parts of an index's text, by where they stand.
use Rattle.std.proofs.Common.{◌≡◌, ℕ, zero, suc, ◌+◌, ◌-◌, ◌<◌, ◌≤◌, List, [], ◌∷◌, ◌++◌, length, take, drop, get_or, slice_range, sym, ap, subst, ◌∙◌, arith}
use Rattle.std.proofs.Math.Seq.{take-append_seam, drop-append_seam, drop-append-add}
use Rattle.std.proofs.lemmas.List.{length-append, take-append-drop}
use Rattle.std.proofs.lemmas.List.Folds.{drop_split}

-- the text of these parts, each behind the one before it
abbrev pub laid : (m u ct cs sz ck rs ds : List ℕ) → List ℕ
laid m u ct cs sz ck rs ds = m ++ (u ++ (ct ++ (cs ++ (sz ++ (ck ++ (rs ++ ds))))))

pub record HasLengths (m u ct cs sz ck rs : List ℕ) : Type 0 where
  pub magic : length m ≡ 8
  pub uuid : length u ≡ 16
  pub ctime : length ct ≡ 8
  pub csum : length cs ≡ 32
  pub size : length sz ≡ 8
  pub chunk_size : length ck ≡ 8
  pub reserved : length rs ≡ 4016

pub front : (n : ℕ) (a rest : List ℕ) → length a ≡ n → take n (a ++ rest) ≡ a
front n a rest is = subst (λ k. take k (a ++ rest) ≡ a) is (take-append_seam a rest)

behind : (n k : ℕ) (a rest : List ℕ) → length a ≡ n → drop (n + k) (a ++ rest) ≡ drop k rest
behind n k a rest is = subst (λ j. drop (j + k) (a ++ rest) ≡ drop k rest) is (drop-append-add a rest k)

pub seam : (n : ℕ) (a rest : List ℕ) → length a ≡ n → drop n (a ++ rest) ≡ rest
seam n a rest is = subst (λ j. drop j (a ++ rest) ≡ rest) is (drop-append_seam a rest)

-- what stands where
pub record HasLayout (text m u ct cs sz ck rs ds : List ℕ) : Type 0 where
  pub magic : take 8 text ≡ m
  pub uuid : slice_range text 8 24 ≡ u
  pub ctime : slice_range text 24 32 ≡ ct
  pub csum : slice_range text 32 64 ≡ cs
  pub size : slice_range text 64 72 ≡ sz
  pub chunk_size : slice_range text 72 80 ≡ ck
  pub reserved : slice_range text 80 4096 ≡ rs
  pub digests : drop 4096 text ≡ ds
  pub len : length text ≡ 4096 + length ds

module _ (m u ct cs sz ck rs ds : List ℕ) (is : HasLengths m u ct cs sz ck rs) where
  past_magic : (k : ℕ) → drop (8 + k) (laid m u ct cs sz ck rs ds) ≡ drop k (u ++ (ct ++ (cs ++ (sz ++ (ck ++ (rs ++ ds))))))
  past_magic k = behind 8 k m _ is.magic

  past_uuid : (k : ℕ) → drop (8 + (16 + k)) (laid m u ct cs sz ck rs ds) ≡ drop k (ct ++ (cs ++ (sz ++ (ck ++ (rs ++ ds)))))
  past_uuid k = past_magic (16 + k) ∙ behind 16 k u _ is.uuid

  past_ctime : (k : ℕ) → drop (8 + (16 + (8 + k))) (laid m u ct cs sz ck rs ds) ≡ drop k (cs ++ (sz ++ (ck ++ (rs ++ ds))))
  past_ctime k = past_uuid (8 + k) ∙ behind 8 k ct _ is.ctime

  past_csum : (k : ℕ) → drop (8 + (16 + (8 + (32 + k)))) (laid m u ct cs sz ck rs ds) ≡ drop k (sz ++ (ck ++ (rs ++ ds)))
  past_csum k = past_ctime (32 + k) ∙ behind 32 k cs _ is.csum

  past_size : (k : ℕ) → drop (8 + (16 + (8 + (32 + (8 + k))))) (laid m u ct cs sz ck rs ds) ≡ drop k (ck ++ (rs ++ ds))
  past_size k = past_csum (8 + k) ∙ behind 8 k sz _ is.size

  past_chunk_size : (k : ℕ) → drop (8 + (16 + (8 + (32 + (8 + (8 + k)))))) (laid m u ct cs sz ck rs ds) ≡ drop k (rs ++ ds)
  past_chunk_size k = past_size (8 + k) ∙ behind 8 k ck _ is.chunk_size

  pub laid_out : HasLayout (laid m u ct cs sz ck rs ds) m u ct cs sz ck rs ds
  laid_out = record {
    magic = front 8 m _ is.magic;
    uuid = ap (take 16) (past_magic 0) ∙ front 16 u _ is.uuid;
    ctime = ap (take 8) (past_uuid 0) ∙ front 8 ct _ is.ctime;
    csum = ap (take 32) (past_ctime 0) ∙ front 32 cs _ is.csum;
    size = ap (take 8) (past_csum 0) ∙ front 8 sz _ is.size;
    chunk_size = ap (take 8) (past_size 0) ∙ front 8 ck _ is.chunk_size;
    reserved = ap (take 4016) (past_chunk_size 0) ∙ front 4016 rs _ is.reserved;
    digests = past_chunk_size 4016 ∙ seam 4016 rs ds is.reserved;
    len = omega (
      arith,
      is,
      length-append m (u ++ (ct ++ (cs ++ (sz ++ (ck ++ (rs ++ ds)))))),
      length-append u (ct ++ (cs ++ (sz ++ (ck ++ (rs ++ ds))))),
      length-append ct (cs ++ (sz ++ (ck ++ (rs ++ ds)))),
      length-append cs (sz ++ (ck ++ (rs ++ ds))),
      length-append sz (ck ++ (rs ++ ds)),
      length-append ck (rs ++ ds),
      length-append rs ds,
    );
  }

-- and a text of that length is its parts
pub parts_joined : (text : List ℕ) → text ≡ laid (take 8 text) (slice_range text 8 24) (slice_range text 24 32) (slice_range text 32 64)
    (slice_range text 64 72) (slice_range text 72 80) (slice_range text 80 4096) (drop 4096 text)
parts_joined text =
    let cut = λ (at end : ℕ) (le : at ≤ end). drop_split text at end le in
    sym (take-append-drop 8 text)
    ∙ ap (λ z. take 8 text ++ z) (cut 8 24 (omega arith)
    ∙ ap (λ z. slice_range text 8 24 ++ z) (cut 24 32 (omega arith)
    ∙ ap (λ z. slice_range text 24 32 ++ z) (cut 32 64 (omega arith)
    ∙ ap (λ z. slice_range text 32 64 ++ z) (cut 64 72 (omega arith)
    ∙ ap (λ z. slice_range text 64 72 ++ z) (cut 72 80 (omega arith)
    ∙ ap (λ z. slice_range text 72 80 ++ z) (cut 80 4096 (omega arith)))))))

-- bytes of a part are bytes
small_front : (n : ℕ) (bytes : List ℕ) (i : ℕ) → ((j : ℕ) → get_or bytes j 0 < 256) → get_or (take n bytes) i 0 < 256
small_front zero bytes i small = omega arith
small_front (suc n) [] i small = omega arith
small_front (suc n) (b ∷ bytes) zero small = small 0
small_front (suc n) (b ∷ bytes) (suc i) small = small_front n bytes i (λ j. small (suc j))

small_rest : (k : ℕ) (bytes : List ℕ) (i : ℕ) → ((j : ℕ) → get_or bytes j 0 < 256) → get_or (drop k bytes) i 0 < 256
small_rest zero bytes i small = small i
small_rest (suc k) [] i small = omega arith
small_rest (suc k) (b ∷ bytes) i small = small_rest k bytes i (λ j. small (suc j))

pub small_part : (bytes : List ℕ) (at end : ℕ) → ((j : ℕ) → get_or bytes j 0 < 256) → (i : ℕ) → get_or (slice_range bytes at end) i 0 < 256
small_part bytes at end small i = small_front (end - at) (drop at bytes) i (λ j. small_rest at bytes j small)
