-- The tables of a file whose length agrees with its header.
use Rattle.rules.specs.Tables.{Tables, tables}
use Rattle.rules.specs.declared.file.File.{File}

abbrev pub held : File → Tables
held f = tables f.layout f.bytes.now
