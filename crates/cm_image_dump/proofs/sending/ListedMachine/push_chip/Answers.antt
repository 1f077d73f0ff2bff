use Rattle.std.proofs.Common.{◌≡◌, ◌≤◌, ◌+◌, ◌*◌, ℕ, List, length, get_or, sym, ap, ◌∙◌, subst, arith}
use Rattle.std.proofs.Common.{length-drop}
use Rattle.std.specs.List.{flat_map}
use Rattle.std.proofs.lemmas.List.{take_rest, get_or-drop}
use Rattle.cm_model.specs.Processor.{Processor}
use Rattle.cm_model.specs.Array.{chip_at, nth_or_nil}
use Rattle.cm_image_format.specs.Whole.{memory_plane_of}
use Rattle.cm_image_dump.specs.declared.sending.Near.{Near}
use Rattle.cm_image_dump.specs.Planes.{planes_below, listed_below, listing_at}
use Rattle.cm_image_dump.specs.Sending.{StandsNear}
use Rattle.cm_image_dump.proofs.sending.ListedMachine.push_chip.Goals as goal

pub push_sparse_chip-requires : goal.push_sparse_chip-requires
push_sparse_chip-requires g c =
    let number : ℕ = c.args.number in
    let stands = subst (λ (near : Near). StandsNear c.args.self.now.machine.now.machine number c.args.place near)
    c.in-Chips.is c.requires.near in
    let same : c.view.result ≡ chip_at c.args.self.now.machine.now.machine.chips number =
    c.view.ensures.value ∙ stands.1 in
    let room : length (nth_or_nil c.args.self.now.machine.now.machine.buffers number) ≤ g.S.Sizes.cap =
    c.buffer-buffer.ensures.whole.room number c.requires.chip in
    record {
      planes = ap (λ (k : ℕ). get_or c.args.self.now.counts.now k 0) c.from.ensures
          ∙ (c.requires.counts.each number c.requires.chip ∙ sym (λ i. length (planes_below (same i) 4096)));
      few = rw c.buffer-buffer.ensures.value (omega (arith, room, c.requires.room));
      within = c.requires.in_use.within;
      listed = subst
          (λ (v : List Processor). listed_below v 4096 ≡ flat_map (listing_at v) c.args.self.now.addresses.now)
          (sym same) (c.requires.in_use.listed number c.requires.chip);
    }

pub push_dense_chip-requires : goal.push_dense_chip-requires
push_dense_chip-requires g c =
    let number : ℕ = c.args.number in
    let stands = subst (λ (near : Near). StandsNear c.args.self.now.machine.now.machine number c.args.place near)
    c.in-Planes.is c.requires.near in
    let own : ℕ = c.from-own.result * 4128 in
    let planes : List ℕ = c.deref.result.now in
    let room : length (nth_or_nil c.args.self.now.machine.now.machine.buffers number) ≤ g.S.Sizes.cap =
    c.buffer-buffer.ensures.whole.room number c.requires.chip in
    record {
      listed = ap (λ (k : ℕ). get_or c.args.self.now.counts.now k 0) c.from.ensures
          ∙ (c.requires.counts.each number c.requires.chip
          ∙ sym (λ i. length (planes_below (c.chip-chip.ensures.value i) 4096)));
      long = omega (
        arith,
        ap length (take_rest planes own),
        length-drop own planes,
        ap length c.deref.ensures.value,
        stands.0,
        c.from-own.ensures,
      );
      planes = λ a h. ap (λ (xs : List ℕ). get_or xs a 0) (take_rest planes own)
          ∙ get_or-drop own planes a 0
          ∙ ap (λ (xs : List ℕ). get_or xs (own + a) 0) c.deref.ensures.value
          ∙ ap (λ (k : ℕ). get_or c.in-Planes.planes.items (k * 4128 + a) 0) c.from-own.ensures
          ∙ stands.1 a h
          ∙ sym (λ i. memory_plane_of (c.chip-chip.ensures.value i) a);
      few = rw c.buffer-buffer.ensures.value (omega (arith, room, c.requires.room));
    }
