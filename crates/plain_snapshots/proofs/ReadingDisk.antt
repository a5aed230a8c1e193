-- All that a disk has, name by name.
use Rattle.std.proofs.Common.{◌≡◌, ℕ, Bool, true, false, cond, ◌&&◌, map, filter, List, [], ◌∷◌, ◌++◌, append_assoc, Option, Some, refl, sym, ap, ◌∙◌}
use Rattle.std.proofs.lemmas.List.{append-nil}
use Rattle.std.specs.Prelude.{eqb, T}
use Rattle.std.specs.List.{starts_with}
use Rattle.std.proofs.lemmas.Cmp.{tied_itself}
use Rattle.std.specs.Cmp.Lexicographic.{nat_list_cmp_total}
use Rattle.std.specs.Ordering.{is_lt, is_eq, ordering_reverse, eq_by_cmp}
use Rattle.std.specs.declared.cmp.Ordering.{Ordering}
use Rattle.std.specs.declared.cmp.Ordering.TheVariants.{Less, Equal, Greater}
use Rattle.std.specs.FinMap.{get, entries, keys, entries_sorted, get-entries, find, is_sorted}
use Rattle.std.specs.FinMap.Entries.{below_all}
use Rattle.disk_trait.specs.Files.{Files}
use Rattle.plain_snapshots.specs.Loading.{found_at}
use Rattle.store_types.specs.Names.{text_cmp}

abbrev Text : Type 0
Text = List ℕ

abbrev pub Reads : Type 0
Reads = Text → Option Text

-- what is read at names, one after another
abbrev pub read_at : Reads → List Text → List (Text × Text)
read_at reads [] = []
read_at reads (name ∷ names) = found_at name (reads name) ++ read_at reads names

pub read_at-push : (reads : Reads) (names : List Text) (name : Text) → read_at reads (names ++ name ∷ []) ≡ read_at reads names ++ found_at name (reads name)
read_at-push reads [] name = append-nil (found_at name (reads name))
read_at-push reads (n ∷ ns) name = ap (λ l. found_at n (reads n) ++ l) (read_at-push reads ns name) ∙ sym (append_assoc (found_at n (reads n)) (read_at reads ns) (found_at name (reads name)))

same_reads : (f g : Reads) (names : List Text) → ((name : Text) → f name ≡ g name) → read_at f names ≡ read_at g names
same_reads f g [] same = refl
same_reads f g (n ∷ ns) same = ap (λ x. found_at n x ++ read_at f ns) (same n) ∙ ap (λ l. found_at n (g n) ++ l) (same_reads f g ns same)

-- ---- what stands at each name of a sorted list

first : (a b : Bool) → T (a && b) → T a
first true b h = tt
first false b h = h

second : (a b : Bool) → T (a && b) → T b
second true b h = h
second false b h = absurd h

reversed_less : (o : Ordering) → T (is_lt o) → is_eq (ordering_reverse o) ≡ false
reversed_less Less h = refl
reversed_less Equal h = absurd h
reversed_less Greater h = absurd h

apart : (x y : Text) → T (is_lt (text_cmp x y)) → eq_by_cmp text_cmp y x ≡ false
apart x y h = ap is_eq (nat_list_cmp_total.antisymm y x) ∙ reversed_less (text_cmp x y) h

own : (x : Text) → eq_by_cmp text_cmp x x ≡ true
own x = ap is_eq (tied_itself nat_list_cmp_total x)

past : (e : Text × Text) (es ts : List (Text × Text)) → T (below_all text_cmp e.0 ts)
    → read_at (λ k. find text_cmp k (e ∷ es)) (map (λ t. t.0) ts) ≡ read_at (λ k. find text_cmp k es) (map (λ t. t.0) ts)
past e es [] h = refl
past e es (t ∷ ts) h =
    let other = ap (λ b. cond b (Some e.1) (find text_cmp t.0 es)) (apart e.0 t.0 (first (is_lt (text_cmp e.0 t.0)) (below_all text_cmp e.0 ts) h)) in
    ap (λ x. found_at t.0 x ++ read_at (λ k. find text_cmp k (e ∷ es)) (map (λ t. t.0) ts)) other
    ∙ ap (λ l. found_at t.0 (find text_cmp t.0 es) ++ l) (past e es ts (second (is_lt (text_cmp e.0 t.0)) (below_all text_cmp e.0 ts) h))

all_found : (es : List (Text × Text)) → T (is_sorted text_cmp es) → read_at (λ k. find text_cmp k es) (map (λ t. t.0) es) ≡ es
all_found [] h = refl
all_found (e ∷ es) h =
    let mine = ap (λ b. cond b (Some e.1) (find text_cmp e.0 es)) (own e.0) in
    ap (λ x. found_at e.0 x ++ read_at (λ k. find text_cmp k (e ∷ es)) (map (λ t. t.0) es)) mine
    ∙ ap (λ l. (e.0, e.1) ∷ l) (past e es es (first (below_all text_cmp e.0 es) (is_sorted text_cmp es) h) ∙ all_found es (second (below_all text_cmp e.0 es) (is_sorted text_cmp es) h))

any_start : (names : List Text) → filter (λ name. starts_with eqb name []) names ≡ names
any_start [] = refl
any_start (n ∷ ns) = ap (λ l. n ∷ l) (any_start ns)

-- what stands at the names of a disk is the disk
pub disk_read : (m : Files) → read_at (get m) (filter (λ name. starts_with eqb name []) (keys m)) ≡ entries m
disk_read m =
    ap (read_at (get m)) (any_start (keys m)) ∙ same_reads (get m) (λ k. find text_cmp k (entries m)) (keys m) (get-entries m)
    ∙ all_found (entries m) (entries_sorted m)
