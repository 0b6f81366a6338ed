use Rattle.std.proofs.Common.{rules, ◌≡◌, ℕ, List, get_or}
use Rattle.codes.specs.Blocks.{word}
use Rattle.parity.specs.WordMaps.{combined, combined_byte}
use Rattle.parity.proofs.Bytes.{bytes_units}
use Rattle.parity.proofs.Fields.{units_all}
use Rattle.parity.proofs.word_map.WordMap.apply.Goals as goal

pub returns-in-Some : goal.returns-in-Some
returns-in-Some c n f ready =
    let images : List ℕ = c.args.self.now.images in
    let before : List ℕ = c.args.block.now in
    let after : List ℕ = c.map_bytes.new.block in
    let fits = c.map_bytes.ensures.bytes in
    units_all images n f ready before after c.told-block c.map_bytes.array_long c.fits-block fits
    (bytes_units c.in-Some.images images c.in-Some.ensures before after c.fits-block fits
    (λ k lt.
    let called = c.map_bytes.ensures.images k lt in
    let image : get_or after k 0 ≡ combined_byte c.in-Some.images (get_or before k 0) = search rules in
    image))

pub returns-in-None : goal.returns-in-None
returns-in-None c n f ready =
    let images : List ℕ = c.args.self.now.images in
    let before : List ℕ = c.args.block.now in
    let after : List ℕ = c.map_words.new.block in
    units_all images n f ready before after c.told-block c.map_words.array_long c.fits-block c.map_words.ensures.bytes
    (λ u lt.
    let called = c.map_words.ensures.words u lt in
    let image : word 16 after u ≡ combined images (word 16 before u) = search rules in
    image)
