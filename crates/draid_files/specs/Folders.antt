-- The folder of a shelf over files.
use Rattle.std.specs.Prelude.{ℕ, List, string_bytes}
use Rattle.draid_files.specs.declared.shelf.FileShelf.{FileShelf}

-- its name
abbrev pub path_of : FileShelf → List ℕ
path_of shelf = string_bytes shelf.folder.path
