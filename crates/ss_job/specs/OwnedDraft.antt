-- A `Draft` as what it says.
use Rattle.std.specs.Prelude.{map}
use Rattle.ss_job.specs.Owned.{vertex_text}
use Rattle.ss_job.specs.Vertices.{DraftText}
use Rattle.ss_job.specs.declared.draft.Draft.TheInside.{Inside}

abbrev pub draft_text : Inside → DraftText
draft_text draft =
    record {
      names = draft.names;
      roles = draft.roles.items;
      nodes = draft.nodes.items;
      vertices = map vertex_text draft.vertices.items;
    }
