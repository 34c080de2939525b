-- An `Entry` as what it says.
use Rattle.ss_job.specs.Owned.{vertex_text}
use Rattle.ss_job.specs.Vertices.{EntryText}
use Rattle.ss_job.specs.declared.entry.Entry.{Entry}

abbrev pub entry_text : Entry → EntryText
entry_text entry = record { inputs = entry.inputs; replicas = entry.replicas; vertex = vertex_text entry.vertex }
