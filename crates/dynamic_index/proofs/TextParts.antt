-- The parts of an index's text, by where they stand.
use Rattle.std.proofs.Common.{◌≡◌, ℕ, ◌+◌, ◌≤◌, List, ◌++◌, length, take, drop, slice_range, sym, ap, subst, ◌∙◌, arith}
use Rattle.std.proofs.Math.Seq.{take-append_seam, drop-append_seam, drop-append-add}
use Rattle.std.proofs.lemmas.List.{length-append, take-append-drop}
use Rattle.std.proofs.lemmas.List.Folds.{drop_split}

-- the text of these parts, each behind the one before it
abbrev pub laid : (m u ct cs rs es : List ℕ) → List ℕ
laid m u ct cs rs es = m ++ (u ++ (ct ++ (cs ++ (rs ++ es))))

pub record HasLengths (m u ct cs rs : List ℕ) : Type 0 where
  pub magic : length m ≡ 8
  pub uuid : length u ≡ 16
  pub ctime : length ct ≡ 8
  pub csum : length cs ≡ 32
  pub reserved : length rs ≡ 4032

pub front : (n : ℕ) (a rest : List ℕ) → length a ≡ n → take n (a ++ rest) ≡ a
front n a rest is = subst (λ k. take k (a ++ rest) ≡ a) is (take-append_seam a rest)

behind : (n k : ℕ) (a rest : List ℕ) → length a ≡ n → drop (n + k) (a ++ rest) ≡ drop k rest
behind n k a rest is = subst (λ j. drop (j + k) (a ++ rest) ≡ drop k rest) is (drop-append-add a rest k)

pub seam : (n : ℕ) (a rest : List ℕ) → length a ≡ n → drop n (a ++ rest) ≡ rest
seam n a rest is = subst (λ j. drop j (a ++ rest) ≡ rest) is (drop-append_seam a rest)

-- what stands where
pub record HasLayout (text m u ct cs rs es : List ℕ) : Type 0 where
  pub magic : take 8 text ≡ m
  pub uuid : slice_range text 8 24 ≡ u
  pub ctime : slice_range text 24 32 ≡ ct
  pub csum : slice_range text 32 64 ≡ cs
  pub reserved : slice_range text 64 4096 ≡ rs
  pub entries : drop 4096 text ≡ es
  pub len : length text ≡ 4096 + length es

module _ (m u ct cs rs es : List ℕ) (is : HasLengths m u ct cs rs) where
  past_magic : (k : ℕ) → drop (8 + k) (laid m u ct cs rs es) ≡ drop k (u ++ (ct ++ (cs ++ (rs ++ es))))
  past_magic k = behind 8 k m _ is.magic

  past_uuid : (k : ℕ) → drop (8 + (16 + k)) (laid m u ct cs rs es) ≡ drop k (ct ++ (cs ++ (rs ++ es)))
  past_uuid k = past_magic (16 + k) ∙ behind 16 k u _ is.uuid

  past_ctime : (k : ℕ) → drop (8 + (16 + (8 + k))) (laid m u ct cs rs es) ≡ drop k (cs ++ (rs ++ es))
  past_ctime k = past_uuid (8 + k) ∙ behind 8 k ct _ is.ctime

  past_csum : (k : ℕ) → drop (8 + (16 + (8 + (32 + k)))) (laid m u ct cs rs es) ≡ drop k (rs ++ es)
  past_csum k = past_ctime (32 + k) ∙ behind 32 k cs _ is.csum

  pub laid_out : HasLayout (laid m u ct cs rs es) m u ct cs rs es
  laid_out = record {
    magic = front 8 m _ is.magic;
    uuid = ap (take 16) (past_magic 0) ∙ front 16 u _ is.uuid;
    ctime = ap (take 8) (past_uuid 0) ∙ front 8 ct _ is.ctime;
    csum = ap (take 32) (past_ctime 0) ∙ front 32 cs _ is.csum;
    reserved = ap (take 4032) (past_csum 0) ∙ front 4032 rs _ is.reserved;
    entries = past_csum 4032 ∙ seam 4032 rs es is.reserved;
    len = omega (
      arith,
      is,
      length-append m (u ++ (ct ++ (cs ++ (rs ++ es)))),
      length-append u (ct ++ (cs ++ (rs ++ es))),
      length-append ct (cs ++ (rs ++ es)),
      length-append cs (rs ++ es),
      length-append rs es,
    );
  }

-- and a text of that length is its parts
pub parts_joined : (text : List ℕ) → text ≡ laid (take 8 text) (slice_range text 8 24) (slice_range text 24 32) (slice_range text 32 64)
    (slice_range text 64 4096) (drop 4096 text)
parts_joined text =
    let cut = λ (at end : ℕ) (le : at ≤ end). drop_split text at end le in
    sym (take-append-drop 8 text)
    ∙ ap (λ z. take 8 text ++ z) (cut 8 24 (omega arith)
    ∙ ap (λ z. slice_range text 8 24 ++ z) (cut 24 32 (omega arith)
    ∙ ap (λ z. slice_range text 24 32 ++ z) (cut 32 64 (omega arith)
    ∙ ap (λ z. slice_range text 32 64 ++ z) (cut 64 4096 (omega arith)))))
