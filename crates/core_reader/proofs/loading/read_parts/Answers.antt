use Rattle.std.proofs.Common.{◌≡◌, ℕ, List, ◌<◌, ◌≤◌, ◌+◌, [], length, drop, get_or, ◌++◌, refl, sym, ap, subst, ◌∙◌, inl, inr, rules, arith}
use Rattle.std.proofs.lemmas.List.{drop_more, drop_all}
use Rattle.restore_reader.specs.declared.ranges.Part.{Part}
use Rattle.restore_reader.specs.Cutting.{cut, total_of}
use Rattle.chunk_store.specs.Pieces.{IsHeld}
use Rattle.disk_trait.proofs.OnlyReading.{reads_none, reads_then}
use Rattle.core_state.proofs.Commanding.{gives_by}
use Rattle.core_reader.specs.Chunks.{behind, part_chunk_at, parts_at}
use Rattle.core_reader.proofs.Loads.{held_part, part_more, part_stopped, parts_done, total_more, chunk_then, short_only, short_unrefused, unrefused_by}
use Rattle.core_reader.proofs.loading.read_parts.Goals as goal

abbrev none : Part
none = record { digest = record { 0 = [] }; from = 0; length = 0; chunk_length = 0 }

pub loop-part-init : goal.loop-part-init
loop-part-init g c = record {
  reads = reads_none g.D.Disk c.args.disk.now ⊥ (λ n. n);
  value = λ h. refl;
  size = omega arith;
}

pub returns-in_err-chunk-clause-reads : goal.returns-in_err-chunk-clause-reads
returns-in_err-chunk-clause-reads g c = reads_then g.D.Disk _ _ _ ⊥ _ _ c.loop-part.invariant.reads c.read_part_chunk.ensures.reads (λ f. inr (search rules))

pub returns-in_err-extend_from_slice-clause-reads : goal.returns-in_err-extend_from_slice-clause-reads
returns-in_err-extend_from_slice-clause-reads g c = reads_then g.D.Disk _ _ _ ⊥ _ _ c.loop-part.invariant.reads c.read_part_chunk.ensures.reads (λ f. absurd (short_only _ c.from_residual-in_err-extend_from_slice.ensures.1 f))

pub returns-in_err-chunk-clause-value : goal.returns-in_err-chunk-clause-value
returns-in_err-chunk-clause-value g c = let d = g.D.Disk in λ h.
    let parts = c.args.parts.now in
    let i = c.loop-part.part-index in
    let lt : i < length parts = omega arith in
    let reads = c.loop-part.invariant.reads in
    gives_by _ _ _ _ c.from_residual.ensures.1
    (part_stopped {A = List ℕ} {B = Unit {0}} (λ chunk. chunk) (λ _. c.loop-part.bytes.items) (d.content c.args.disk.now) c.loop-part.bytes.items _ (drop i parts) (drop (i + 1) parts) (get_or parts i none) _
    (c.loop-part.invariant.value h) (drop_more parts i none lt)
    (chunk_then (d.content c.loop-part.disk) (d.content c.args.disk.now) (get_or parts i none) _ (reads.same h) (c.in_err-chunk.ensures.value (reads.serves.kept.0 h))))

pub returns-in_err-chunk-clause-held : goal.returns-in_err-chunk-clause-held
returns-in_err-chunk-clause-held g c = let d = g.D.Disk in λ h holds.
    let parts = c.args.parts.now in
    let i = c.loop-part.part-index in
    let lt : i < length parts = omega arith in
    let reads = c.loop-part.invariant.reads in
    let p = held_part (d.content c.args.disk.now) parts holds.pieces i none holds.are holds.held lt in
    unrefused_by _ _ (λ (chunk : List ℕ). chunk) p.0 c.from_residual.ensures.1
    (c.in_err-chunk.ensures.held (reads.serves.kept.0 h) p.0 (subst (λ m. IsHeld m p.0) (sym (reads.same h)) p.1) p.2)

pub returns-in_err-extend_from_slice-clause-held : goal.returns-in_err-extend_from_slice-clause-held
returns-in_err-extend_from_slice-clause-held g c = λ h holds. short_unrefused _ c.from_residual-in_err-extend_from_slice.ensures.1

pub loop-part-preserved : goal.loop-part-preserved
loop-part-preserved g c = let d = g.D.Disk in
    let m = d.content c.args.disk.now in
    let parts = c.args.parts.now in
    let i = c.loop-part.part-index in
    let lt : i < length parts = omega arith in
    let x = get_or parts i none in
    let next = drop_more parts i none lt in
    let before = c.loop-part.bytes.items in
    let same = c.loop-part.invariant.reads.same in
    let bytes : c.extend_from_slice.new.self.items ≡ before ++ cut x c.in_ok-chunk.chunk = c.in_ok-extend_from_slice.ensures.items ∙ ap (λ l. before ++ l) (c.cut_from.ensures ∙ ap (cut x) c.piece.ensures) in
    record {
      reads = reads_then d _ _ _ ⊥ _ ⊥ c.loop-part.invariant.reads c.read_part_chunk.ensures.reads inl;
      value = λ h.
          c.loop-part.invariant.value h
          ∙ part_more m before (drop i parts) (drop (i + 1) parts) x c.in_ok-chunk.chunk next
          (ap (λ f. part_chunk_at f x) (sym (same h)) ∙ c.in_ok-chunk.ensures.value (c.loop-part.invariant.reads.serves.kept.0 h))
          ∙ ap (λ f. behind f (parts_at m (drop (i + 1) parts))) (sym bytes);
      size = subst (λ b. length b + total_of (drop (i + 1) parts) ≤ length c.args.bytes.now.items + total_of parts) (sym bytes)
          (total_more before (drop i parts) (drop (i + 1) parts) x c.in_ok-chunk.chunk (length c.args.bytes.now.items + total_of parts) next c.loop-part.invariant.size);
    }

pub returns-clause-value : goal.returns-clause-value
returns-clause-value g c = let d = g.D.Disk in λ h.
    let parts = c.args.parts.now in
    let i = c.loop-part.part-index in
    let all : length parts ≤ i = omega arith in
    c.loop-part.invariant.value h ∙ parts_done (d.content c.args.disk.now) c.loop-part.bytes.items (drop i parts) (drop_all i parts all)
