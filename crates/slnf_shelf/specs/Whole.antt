use Rattle.slnf_shelf.specs.declared.shelf.ShelfError.{ShelfError}
use Rattle.slnf_shelf.specs.declared.shelf.ShelfError.TheVariants.{Failed, NoMemory}
use Rattle.slnf_shelf.specs.declared.whole.WholeError.{WholeError}
use Rattle.slnf_shelf.specs.declared.whole.WholeError.TheVariants.{Failed as WholeFailed, NoMemory as WholeNoMemory}

-- the same error of a read of a whole file
abbrev pub whole_error : ShelfError → WholeError
whole_error Failed = WholeFailed
whole_error NoMemory = WholeNoMemory
