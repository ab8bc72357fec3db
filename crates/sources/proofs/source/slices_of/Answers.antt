use native.Mathlib.Omega.{arith}
use lib.ListN.{get_or}
use Rattle.cell.specs.Cells.{cell_of}
use Rattle.sources.proofs.SliceSources.{rom_fitting, slices_rom, slices_kept}
use Rattle.sources.proofs.CellSources.{character}
use mathlib.Core.Path.{sym, ◌∙◌}
use Rattle.sources.proofs.source.slices_of.Goals as goal

pub rom_slices-requires : goal.rom_slices-requires
rom_slices-requires c = let a = c.args.scene.now in
    let cell = cell_of a.page.shown.part (get_or c.args.code 0 0) (get_or c.args.code 1 0) (get_or c.args.code 2 0) in
    omega (arith, a.rom_whole, rom_fitting a.page.shown cell _ _ c.source_of.ensures c.in-Rom.is)

pub returns-in-Rom : goal.returns-in-Rom
returns-in-Rom c = let a = c.args.scene.now in
    let same = sym (character a.page.shown.part (get_or c.args.code 0 0) (get_or c.args.code 1 0) (get_or c.args.code 2 0)) in
    c.rom_slices.ensures ∙ slices_rom a.page.memory.now a.rom.now a.page.shown (cell_of a.page.shown.part (get_or c.args.code 0 0) (get_or c.args.code 1 0) (get_or c.args.code 2 0)) _ _ same c.source_of.ensures _ c.in-Rom.is

pub returns-in-Block : goal.returns-in-Block
returns-in-Block c = let a = c.args.scene.now in
    let same = sym (character a.page.shown.part (get_or c.args.code 0 0) (get_or c.args.code 1 0) (get_or c.args.code 2 0)) in
    c.kept_slices.ensures ∙ slices_kept a.page.memory.now a.rom.now a.page.shown (cell_of a.page.shown.part (get_or c.args.code 0 0) (get_or c.args.code 1 0) (get_or c.args.code 2 0)) _ _ same c.source_of.ensures _ c.in-Block.is
