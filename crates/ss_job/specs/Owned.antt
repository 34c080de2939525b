-- A `Job` as what it says.
use Rattle.std.specs.Prelude.{string_bytes, map}
use Rattle.ss_job.specs.JobText.{VertexText, source, inner, sink, JobText}
use Rattle.ss_job.specs.declared.job.Job.TheInside.{Inside}
use Rattle.ss_job.specs.declared.vertex.Vertex.{Vertex}
use Rattle.ss_job.specs.declared.vertex.Vertex.TheVariants.{Source, Inner, Sink}

abbrev pub vertex_text : Vertex → VertexText
vertex_text (Source file late) = source (string_bytes file) late
vertex_text (Inner spec policy) = inner spec policy
vertex_text (Sink file) = sink (string_bytes file)

-- what a job says
abbrev pub job_text : Inside → JobText
job_text job =
    record {
      graph = job.graph;
      roles = job.roles.items;
      vertices = map vertex_text job.vertices.items;
      max_elements = job.max_elements;
      collect_every = job.collect_every;
    }
